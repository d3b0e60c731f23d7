-- Texts of digits, each after a dot.
use Rattle.std.specs.Prelude.{◌≡◌, ℕ, ◌*◌, ◌<◌, List, length, slice_index_or}

-- at each even place stands a dot
pub record HasDots (t : List ℕ) : Type 0 where
  pub dots : (k : ℕ) → 2 * k < length t → slice_index_or t (2 * k) 0 ≡ 46
