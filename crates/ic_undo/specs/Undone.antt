-- Events that are undone one by one.
use Rattle.std.specs.Prelude.{◌≡◌, ℕ, List, length, map, reverse}
use Rattle.std.specs.List.Sorted.{IsStrictlySortedBy}
use Rattle.ic_name.specs.Events.{Event, Pair, pair}
use Rattle.ic_path.specs.Orders.{IsIn}
use Rattle.ic_path.specs.Rings.{HasEachOnce}
use Rattle.ic_theory.specs.Causes.{IsCause, IsRank, canonical_cmp}
use Rattle.ic_roster.specs.Rosters.{Stander}
use Rattle.ic_set.specs.Orders.{IsAny}
use Rattle.ic_set.specs.Views.{standing, events_of}
use Rattle.ic_journal.specs.Views.{BenchView, set_of}
use Rattle.ic_journal.specs.Undone.{AreUndone}

-- a standing event rests on the one whose firing is the line: it is that one, or one of its direct causes rests on it
pub data RestsOn (v : BenchView) (line : ℕ) : Stander → Type 0 where
  itself : {x : Stander} → x.id.line ≡ line → RestsOn v line x
  through : {x y : Stander} → IsIn y v.events → RestsOn v line y → IsCause v.start (standing (set_of v)) x.event y.event → RestsOn v line x

-- the standing events with a property, each once, the last in canonical order first
pub record AreLastFirst (v : BenchView) (P : Stander → Type 0) (xs : List Stander) : Type 0 where
  pub each : HasEachOnce (λ x. IsIn x v.events × P x) xs
  pub backwards : (rank : Event → ℕ) → IsRank v.start (standing (set_of v)) rank → IsStrictlySortedBy (canonical_cmp rank) (reverse (events_of xs))

-- the standing events with a property were undone, the last in canonical order first, and these are their names
pub record IsUnwound (old : BenchView) (P : Stander → Type 0) (names : List Pair) (new : BenchView) : Type 0 where
  pub undone : List Stander
  pub which : AreLastFirst old P undone
  pub did : AreUndone old undone new
  pub named : map (λ x. pair x.event) undone ≡ names

-- all events were undone, the last in canonical order first, and they were so many
pub record IsCleared (old : BenchView) (count : ℕ) (new : BenchView) : Type 0 where
  pub undone : List Stander
  pub which : AreLastFirst old IsAny undone
  pub did : AreUndone old undone new
  pub counted : count ≡ length undone
