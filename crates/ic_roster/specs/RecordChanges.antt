-- What a write to the dependents of events changes.
use Rattle.std.specs.Prelude.{◌≡◌, ◌<◌, ℕ, true, false, List, ◌∷◌, Option, option_map}
use Rattle.std.specs.Option.{IsSomeAnd}
use Rattle.ic_path.specs.Orders.{Alike}
use Rattle.ic_roster.specs.KeptEvents.{KeptEvent, lone}
use Rattle.ic_roster.specs.Slots.{slot_at}
use Rattle.ic_roster.specs.Records.{dependents_at, has}

-- each slot has the same, but for dependents
abbrev pub ShowsSame : List (Option KeptEvent) → List (Option KeptEvent) → Type 0
ShowsSame old new = (k : ℕ) → option_map lone (slot_at new k) ≡ option_map lone (slot_at old k)

-- an event stands in the slot, and there is a place for a dependent more
abbrev pub HasRoom : List (Option KeptEvent) → ℕ → Type 0
HasRoom slots k = IsSomeAnd (slot_at slots k) (λ r. 0 < r.spare)

-- the same events with the same dependents
pub record SameRecords (old new : List (Option KeptEvent)) : Type 0 where
  pub shows : ShowsSame old new
  pub dependents : (k : ℕ) → dependents_at new k ≡ dependents_at old k

-- the dependents of the events in some slots are changed, and nothing else
pub record Changes (P : List ℕ → List ℕ → Type 0) (ks : List ℕ) (old new : List (Option KeptEvent)) : Type 0 where
  pub shows : ShowsSame old new
  pub changed : (k : ℕ) → has k ks ≡ true → P (dependents_at old k) (dependents_at new k)
  pub others : (k : ℕ) → has k ks ≡ false → dependents_at new k ≡ dependents_at old k

-- the slot is put to the list
abbrev pub Puts : ℕ → List ℕ → List ℕ → Type 0
Puts k old new = Alike (k ∷ old) new

-- the slot is taken out of the list, if it is there
abbrev pub Takes : ℕ → List ℕ → List ℕ → Type 0
Takes k old new = has k old ≡ true → Alike old (k ∷ new)
