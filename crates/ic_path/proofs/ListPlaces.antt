-- Elements at places of lists.
use Rattle.std.proofs.Common.{◌≡◌, ℕ, ◌+◌, ◌<◌, ◌≤◌, List, [], ◌∷◌, ◌++◌, length, take, get_or, ◌⊎◌, inl, inr, Some, None, sym, ap, subst, ◌∙◌}
use Rattle.std.specs.Prelude.{slice_get}
use Rattle.std.proofs.lemmas.List.{take_more}
use Rattle.std.proofs.lemmas.Option.{slice_get_cases, get_or_from_slice_get}
use Rattle.ic_path.specs.Orders.{IsIn}
use Rattle.ic_path.proofs.Picks.{in-cons_cases, none_in}
use Rattle.ic_path.proofs.OnceLists.{pick_at}
use Rattle.ic_path.proofs.InLists.{in-append_cases}

-- an element at a place is in the list
pub item_in : {X : Type 0} (xs : List X) (i : ℕ) (x d : X) → i < length xs → x ≡ get_or xs i d → IsIn x xs
item_in xs i x d h e = subst (λ y. IsIn y xs) (sym e) (_, pick_at xs i d h)

-- a place more has been seen
pub seen_more : {X : Type 0} (xs : List X) (i : ℕ) (x d : X) → i < length xs → x ≡ get_or xs i d → take (i + 1) xs ≡ take i xs ++ x ∷ []
seen_more xs i x d h e = take_more xs i d h ∙ ap (λ y. take i xs ++ y ∷ []) (sym e)

-- an element that is found at a place is in the list
pub found_in : {X : Type 0} (xs : List X) (i : ℕ) (x : X) → slice_get xs i ≡ Some x → IsIn x xs
found_in {X} xs i x e = by (slice_get_cases xs i).1
  where
    by : ((y : X) × (i < length xs) × (slice_get xs i ≡ Some y) × (get_or xs i y ≡ y)) ⊎ ((length xs ≤ i) × (slice_get xs i ≡ None)) → IsIn x xs
    by (inl w) = item_in xs i x x w.1 (sym (get_or_from_slice_get xs i x x e))
    by (inr w) = let none = w.1 in absurd cc

-- what holds of none so far, and not of the next one, holds of none then
pub none_more : {X : Type 0} (P : X → Type 0) (xs : List X) (i : ℕ) (x d : X) → i < length xs → x ≡ get_or xs i d
    → ((y : X) → IsIn y (take i xs) → P y → ⊥) → (P x → ⊥) → (y : X) → IsIn y (take (i + 1) xs) → P y → ⊥
none_more {X} P xs i x d h e none not y j p = by (in-append_cases (take i xs) there)
  where
    there : IsIn y (take i xs ++ x ∷ [])
    there = subst (λ ys. IsIn y ys) (seen_more xs i x d h e) j

    last : (y ≡ x) ⊎ IsIn y [] → ⊥
    last (inl q) = not (subst P q p)
    last (inr k) = none_in k

    by : IsIn y (take i xs) ⊎ IsIn y (x ∷ []) → ⊥
    by (inl k) = none y k p
    by (inr k) = last (in-cons_cases k)
