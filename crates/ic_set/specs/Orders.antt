-- Events in canonical order, by ids.
use Rattle.std.specs.Prelude.{◌≡◌, ℕ, List, map}
use Rattle.std.specs.List.Sorted.{IsStrictlySortedBy}
use Rattle.ic_name.specs.Events.{Event}
use Rattle.ic_name.specs.declared.ids.EventId.{EventId}
use Rattle.ic_path.specs.Orders.{IsIn, Alike}
use Rattle.ic_path.specs.Rings.{HasEachOnce}
use Rattle.ic_theory.specs.Causes.{IsRank, IsCause, canonical_cmp}
use Rattle.ic_roster.specs.Rosters.{Stander}
use Rattle.ic_set.specs.Views.{SetView, standing, events_of}

-- the ids of the standing events with a property, each once, in canonical order
pub record AreInOrder (v : SetView) (P : Stander → Type 0) (ids : List EventId) : Type 0 where
  pub order : List Stander
  pub each : HasEachOnce (λ x. IsIn x v.events × P x) order
  pub canonical : (rank : Event → ℕ) → IsRank v.start (standing v) rank → IsStrictlySortedBy (canonical_cmp rank) (events_of order)
  pub named : map (λ x. x.id) order ≡ ids

-- no matter which event it is
abbrev pub IsAny : Stander → Type 0
IsAny y = Unit {0}

-- the event is a direct cause of the one under the id
abbrev pub IsCauseOf : SetView → EventId → Stander → Type 0
IsCauseOf v d y = (x : Stander) × IsIn x v.events × (x.id ≡ d) × IsCause v.start (standing v) x.event y.event

-- the event has the one under the id among its direct causes
abbrev pub DependsOn : SetView → EventId → Stander → Type 0
DependsOn v d y = (x : Stander) × IsIn x v.events × (x.id ≡ d) × IsCause v.start (standing v) y.event x.event

-- the standing events in canonical order
pub record AreCanonical (v : SetView) (events : List Event) : Type 0 where
  pub alike : Alike (standing v) events
  pub canonical : (rank : Event → ℕ) → IsRank v.start (standing v) rank → IsStrictlySortedBy (canonical_cmp rank) events
