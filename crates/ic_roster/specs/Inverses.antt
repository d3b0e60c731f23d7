-- A table of keys that is read both ways.
use Rattle.std.specs.Prelude.{◌≡◌, ℕ, ◌↔◌, Option, Some}

-- the slot that is found under a key is the one that has the key
abbrev pub IsInverse : (ℕ → Option ℕ) → (ℕ → Option ℕ) → Type 0
IsInverse find key_at = (q k : ℕ) → (find q ≡ Some k) ↔ (key_at k ≡ Some q)
