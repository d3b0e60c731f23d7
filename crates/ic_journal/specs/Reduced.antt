-- What firing active pairs in turn does to a bench.
use Rattle.std.specs.Prelude.{◌≡◌, ◌<◌, ◌≤◌, ℕ, Option, Some, None}
use Rattle.ic_name.specs.Events.{Event}
use Rattle.ic_theory.specs.Starts.{Start}
use Rattle.ic_theory.specs.Active.{IsActive}
use Rattle.ic_theory.specs.Machine.{State, events}
use Rattle.ic_journal.specs.Views.{BenchView}
use Rattle.ic_journal.specs.Benches.{IsAt}
use Rattle.ic_journal.specs.declared.reducing.end.End.{End}
use Rattle.ic_journal.specs.declared.reducing.end.End.TheVariants.{Normal, Budget, Limit, Memory}
use Rattle.ic_journal.specs.Continuing.{Continues}
use Rattle.ic_journal.specs.Reducing.{IsNormal, AreFiredInTurn, MeetsLimit}

-- so many events were fired, at most so many of them, and this ended it; no pair is active then exactly at a normal end
abbrev pub IsReduced : Start → State → ℕ → ℕ → End → State → Type 0
IsReduced s st most n Normal next = AreFiredInTurn s n st next × (n ≤ most) × IsNormal s (events next)
IsReduced s st most n Budget next = AreFiredInTurn s n st next × (n ≡ most) × ((e : Event) × IsActive s (events next) e)
IsReduced s st most n Limit next = (mid : State) × AreFiredInTurn s n st mid × (n < most) × MeetsLimit s mid next
IsReduced s st most n Memory next = AreFiredInTurn s n st next × (n < most) × ((e : Event) × IsActive s (events next) e)

-- the same of a bench, whatever state it shows; each call is one to fire an event
pub record Reduces (old : BenchView) (most n : ℕ) (end : End) (new : BenchView) : Type 0 where
  pub start : new.start ≡ old.start
  pub continues : Continues old n new
  pub reduced : (st : State) → IsAt old st → (next : State) × IsReduced old.start st most n end next × IsAt new next

-- the active pair with the least lead was fired
pub record FiresLeast (old new : BenchView) : Type 0 where
  pub start : new.start ≡ old.start
  pub continues : Continues old 1 new
  pub fired : (st : State) → IsAt old st → (next : State) × AreFiredInTurn old.start 1 st next × IsAt new next

-- an event was fired, or none was, and this is why
abbrev pub FiresNext : BenchView → Option End → BenchView → Type 0
FiresNext old None new = FiresLeast old new
FiresNext old (Some end) new = Reduces old 1 0 end new
