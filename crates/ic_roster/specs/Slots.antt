-- Slots that hold a value or nothing, and indexes of them.
use Rattle.std.specs.Prelude.{◌≡◌, ◌≢◌, ℕ, List, map, Option, Some, None, slice_index_or, option_map}
use Rattle.slab.specs.Slab.{entries_from}
use Rattle.ic_slots.specs.Slots.{slot_of}
use Rattle.ic_roster.specs.Inverses.{IsInverse}

-- what the slot of a key holds
abbrev pub slot_at : {T : Type 0} → List (Option T) → ℕ → Option T
slot_at xs k = slice_index_or xs k None

-- what the values under their keys show, by rising key
abbrev pub shown : {T X : Type 0} → (ℕ × T → X) → List (Option T) → List X
shown f xs = map f (entries_from 0 xs)

-- the second slots hold this value more, under a key that is vacant in the first, and else the same
pub record HoldsOneMore {T : Type 0} (few more : List (Option T)) (key : ℕ) (x : T) : Type 0 where
  pub vacant : slot_at few key ≡ None
  pub filled : slot_at more key ≡ Some x
  pub others : (k : ℕ) → k ≢ key → slot_at more k ≡ slot_at few k

-- the number of what a slot holds
abbrev pub number_at : {T : Type 0} → (T → ℕ) → List (Option T) → ℕ → Option ℕ
number_at f xs k = option_map f (slot_at xs k)

-- no two slots hold values of one number
abbrev pub HaveOwnNumbers : {T : Type 0} → (T → ℕ) → List (Option T) → Type 0
HaveOwnNumbers f xs = (j k n : ℕ) → number_at f xs j ≡ Some n → number_at f xs k ≡ Some n → j ≡ k

-- the index has each value's slot under its number, and nothing else
abbrev pub IsIndexOf : {T : Type 0} → (T → ℕ) → List (Option T) → List (Option ℕ) → Type 0
IsIndexOf f xs index = IsInverse (slot_of index) (number_at f xs)
