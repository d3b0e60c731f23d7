-- The place of the first element that passes a test, as a list grows at its end.
use Rattle.std.proofs.Common.{◌≡◌, ℕ, ◌+◌, Bool, true, false, List, [], ◌∷◌, ◌++◌, length, refl, ap, ◌∙◌, sym, arith}
use Rattle.std.specs.Prelude.{Option, Some, None, cond, ◌||◌, is_some}
use Rattle.std.specs.Option.{option_or}
use Rattle.std.specs.List.{list_any, position, position_from}
use Rattle.std.proofs.lemmas.Iterator.Adapters.{position_from-zero}

-- the place found in a list with w at its end
abbrev pub place_then : Option ℕ → Bool → ℕ → Option ℕ
place_then o b n = option_or o (cond b (Some n) None)

-- the first place in a longer list, where places count from i
from_more : {X : Type 0} (p : X → Bool) (i : ℕ) (xs : List X) (w : X) → position_from p i (xs ++ w ∷ []) ≡ place_then (position_from p i xs) (p w) (i + length xs)
from_more p i [] w = let e : i + 0 ≡ i = omega arith in rw e refl
from_more {X} p i (x ∷ xs) w = first_or_later (p x) (from_more p (i + 1) xs w) where
  first_or_later : (b : Bool) → position_from p (i + 1) (xs ++ w ∷ []) ≡ place_then (position_from p (i + 1) xs) (p w) (i + 1 + length xs) → cond b (Some i) (position_from p (i + 1) (xs ++ w ∷ [])) ≡ place_then (cond b (Some i) (position_from p (i + 1) xs)) (p w) (i + length (x ∷ xs))
  first_or_later true h = refl
  first_or_later false h = let e : i + length (x ∷ xs) ≡ i + 1 + length xs = omega arith in rw e h

-- there is such a place exactly where an element passes
from_any : {X : Type 0} (p : X → Bool) (i : ℕ) (xs : List X) → is_some (position_from p i xs) ≡ list_any p xs
from_any p i [] = refl
from_any p i (x ∷ xs) = first_or_later (p x) (from_any p (i + 1) xs) where
  first_or_later : (b : Bool) → is_some (position_from p (i + 1) xs) ≡ list_any p xs → is_some (cond b (Some i) (position_from p (i + 1) xs)) ≡ (b || list_any p xs)
  first_or_later true h = refl
  first_or_later false h = h

-- the place in a longer list is the one in the shorter list, else that of the last element, if it passes
pub position_more : {X : Type 0} (p : X → Bool) (xs : List X) (w : X) → position p (xs ++ w ∷ []) ≡ place_then (position p xs) (p w) (length xs)
position_more p xs w =
    let zero_more : position_from p 0 (xs ++ w ∷ []) ≡ place_then (position_from p 0 xs) (p w) (0 + length xs) = from_more p 0 xs w in
    let e : 0 + length xs ≡ length xs = omega arith in
    position_from-zero p (xs ++ w ∷ []) ∙ zero_more ∙ rw e (ap (λ o. place_then o (p w) (length xs)) (sym (position_from-zero p xs)))

-- there is a place exactly where an element passes
pub position_any : {X : Type 0} (p : X → Bool) (xs : List X) → is_some (position p xs) ≡ list_any p xs
position_any p xs = ap is_some (position_from-zero p xs) ∙ from_any p 0 xs
