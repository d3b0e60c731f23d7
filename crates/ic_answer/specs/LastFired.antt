-- The events of a bench that were fired last, and undoing them.
use Rattle.std.specs.Prelude.{◌≡◌, ℕ, ◌<◌, ◌≤◌, ◌⊎◌, List, [], ◌∷◌, length, map}
use Rattle.ic_name.specs.declared.ids.EventId.{EventId}
use Rattle.ic_path.specs.Orders.{IsIn}
use Rattle.ic_theory.specs.Machine.{State}
use Rattle.ic_roster.specs.Rosters.{Stander}
use Rattle.ic_set.specs.Views.{events_of}
use Rattle.ic_journal.specs.Views.{BenchView}
use Rattle.ic_journal.specs.Benches.{IsAt}
use Rattle.ic_answer.specs.Longer.{IsLonger}
use Rattle.ic_answer.specs.Unstepped.{AreUnstepped, Unsteps}

-- each event was fired after those that are listed after it
abbrev pub AreFalling : List Stander → Type 0
AreFalling [] = Unit {0}
AreFalling (x ∷ xs) = ((y : Stander) → IsIn y xs → y.id.line < x.id.line) × AreFalling xs

-- the standing events that were fired in this line or after it, the last one first
pub record AreFiredSince (v : BenchView) (line : ℕ) (xs : List Stander) : Type 0 where
  pub only : (x : Stander) → IsIn x xs → IsIn x v.events × (line ≤ x.id.line)
  pub each : (x : Stander) → IsIn x v.events → line ≤ x.id.line → IsIn x xs
  pub falling : AreFalling xs

-- these are their ids
pub record AreSince (v : BenchView) (line : ℕ) (ids : List EventId) : Type 0 where
  pub order : List Stander
  pub since : AreFiredSince v line order
  pub named : map (λ x. x.id) order ≡ ids

-- the ids of the standing events that were fired last, the last one first: so many, or all where they are fewer
pub record AreLastFired (v : BenchView) (most : ℕ) (ids : List EventId) : Type 0 where
  pub line : ℕ
  pub since : AreSince v line ids
  pub many : (length ids ≡ most) ⊎ ((length ids < most) × (line ≡ 0))

-- these events were undone, each as the last one, and those that were fired in this line or after it and stand still are the others
pub record AreUndoneSince (old : BenchView) (line : ℕ) (gone others : List Stander) (new : BenchView) : Type 0 where
  pub start : new.start ≡ old.start
  pub longer : IsLonger old new
  pub unstepped : (st : State) → IsAt old st → (next : State) × AreUnstepped old.start st (events_of gone) next × IsAt new next
  pub left : AreFiredSince new line others

-- the answer to undoing what was fired last, so many times at most, and the bench after it
pub record UnstepsBench (old : BenchView) (most : ℕ) (text : List ℕ) (new : BenchView) : Type 0 where
  pub start : new.start ≡ old.start
  pub replies : (st : State) → IsAt old st → (next : State) × Unsteps old.start st most text next × IsAt new next
