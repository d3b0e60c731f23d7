-- Elements of a list by their places.
use Rattle.std.proofs.Common.{◌≡◌, inl, inr, ℕ, zero, suc, ◌+◌, ◌<◌, List, [], ◌∷◌, ◌++◌, take, drop, length, arith, ap, refl, sym, ◌∙◌}
use Rattle.std.specs.Prelude.{slice_index_or}
use Rattle.std.proofs.lemmas.List.{drop_more, take-append-drop}
use Rattle.ic_path.specs.Orders.{IsIn}
use Rattle.ic_path.proofs.Picks.{none_in, in_first, in_more, in-cons_cases}

-- what stands at a place is in the list
pub in_at : {X : Type 0} (xs : List X) (i : ℕ) (d : X) → i < length xs → IsIn (slice_index_or xs i d) xs
in_at [] i d h = absurd (omega arith)
in_at (x ∷ xs) zero d h = in_first x xs
in_at (x ∷ xs) (suc i) d h = in_more x (in_at xs i d (omega arith))

-- a list is what stands before the place, what stands there, and what stands behind it
pub split_at : {X : Type 0} (xs : List X) (i : ℕ) (d : X) → i < length xs → xs ≡ take i xs ++ slice_index_or xs i d ∷ drop (i + 1) xs
split_at xs i d h = sym (take-append-drop i xs) ∙ ap (λ ys. take i xs ++ ys) (drop_more xs i d h)

-- a member of a list has a place
pub place_of : {X : Type 0} (xs : List X) {x : X} (d : X) → IsIn x xs → (i : ℕ) × (i < length xs) × (slice_index_or xs i d ≡ x)
place_of [] d i = absurd (none_in i)
place_of (y ∷ xs) d i = elim (in-cons_cases i) [
  | inl e ↦ (0, omega arith, sym e)
  | inr j ↦ (let r = place_of xs d j in (suc r.0, (let h = r.1 in omega arith), r.2))
]

-- what stands behind a list stands at the place of its length
pub at_seam : {X : Type 0} (xs : List X) (y : X) (ys : List X) (d : X) → slice_index_or (xs ++ y ∷ ys) (length xs) d ≡ y
at_seam [] y ys d = refl
at_seam (x ∷ xs) y ys d = at_seam xs y ys d
