-- Slots by number.
use Rattle.std.specs.Prelude.{◌≡◌, ℕ, List, Option, None, slice_index_or, if◌then◌else◌, ◌==◌}

-- the slot that a number has, if it has one
abbrev pub slot_of : List (Option ℕ) → ℕ → Option ℕ
slot_of slots number = slice_index_or slots number None

-- the number has this slot, or none, and each other number what it had
abbrev pub Gives : ℕ → Option ℕ → List (Option ℕ) → List (Option ℕ) → Type 0
Gives number slot old new = (n : ℕ) → slot_of new n ≡ (if n == number then slot else slot_of old n)

-- each number has what it had
abbrev pub Keeps : List (Option ℕ) → List (Option ℕ) → Type 0
Keeps old new = (n : ℕ) → slot_of new n ≡ slot_of old n
