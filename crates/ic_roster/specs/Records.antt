-- The records of the events that stand, and how causes and dependents are linked.
use Rattle.std.specs.Prelude.{◌≡◌, ◌==◌, ℕ, Bool, List, [], Option, option_map, unwrap_or}
use Rattle.std.specs.List.{list_any}
use Rattle.ic_roster.specs.KeptEvents.{KeptEvent}
use Rattle.ic_roster.specs.Slots.{slot_at}
use Rattle.ic_path.specs.Orders.{IsOnce}

-- the slots of the direct causes of the event in a slot, none where none stands there
abbrev pub causes_at : List (Option KeptEvent) → ℕ → List ℕ
causes_at slots k = unwrap_or (option_map (λ r. r.causes) (slot_at slots k)) []

-- the slots of the events whose direct cause it is, none where none stands there
abbrev pub dependents_at : List (Option KeptEvent) → ℕ → List ℕ
dependents_at slots k = unwrap_or (option_map (λ r. r.dependents) (slot_at slots k)) []

-- whether the slot is in the list
abbrev pub has : ℕ → List ℕ → Bool
has k ks = list_any (λ j. k == j) ks

-- the dependents of an event are those that have it among their causes, and no list has an event twice
pub record AreLinked (slots : List (Option KeptEvent)) : Type 0 where
  pub linked : (j k : ℕ) → has k (dependents_at slots j) ≡ has j (causes_at slots k)
  pub causes_once : (k : ℕ) → IsOnce (causes_at slots k)
  pub dependents_once : (k : ℕ) → IsOnce (dependents_at slots k)
