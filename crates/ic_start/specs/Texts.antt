-- Texts that lie one behind the other.
use Rattle.std.specs.Prelude.{◌≡◌, ℕ, ◌≤◌, ◌-◌, zero, suc, List, [], ◌∷◌, take, drop, slice_index}

-- the bytes from one place to before another
abbrev pub part : List ℕ → ℕ → ℕ → List ℕ
part bytes from end = take (end - from) (drop from bytes)

-- the texts from a place on, each up to its end
abbrev pub cut : List ℕ → ℕ → List ℕ → List (List ℕ)
cut bytes from [] = []
cut bytes from (end ∷ ends) = part bytes from end ∷ cut bytes end ends

-- the ends of texts from a place on, of whom the last one is the end of all
abbrev pub AreEnds : ℕ → List ℕ → ℕ → Type 0
AreEnds from [] all = from ≡ all
AreEnds from (end ∷ ends) all = (from ≤ end) × AreEnds end ends all

-- where the text with a number begins, the first one at this place
abbrev pub begin : ℕ → List ℕ → ℕ → ℕ
begin from ends zero = from
begin from ends (suc before) = slice_index ends before
