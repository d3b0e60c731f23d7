-- Lists with one more element at the end.
use Rattle.std.proofs.Common.{◌≡◌, List, [], ◌∷◌, ◌++◌, ◌⊎◌}
use Rattle.ic_path.specs.Orders.{Alike, IsIn}
use Rattle.ic_path.proofs.Picks.{in_first, in_more, in-cons_cases}
use Rattle.ic_path.proofs.Alikes.{alike_back, alike-in, append-alike-comm}

-- the last element may go to the front
pub last_first : {X : Type 0} (x : X) (xs : List X) → Alike (xs ++ x ∷ []) (x ∷ xs)
last_first x xs = append-alike-comm xs (x ∷ [])

-- what is in a list with one more at its end is that one, or in the list
pub in-end_cases : {X : Type 0} {x y : X} {xs : List X} → IsIn y (xs ++ x ∷ []) → (y ≡ x) ⊎ IsIn y xs
in-end_cases {X} {x} {y} {xs} i = in-cons_cases (alike-in (last_first x xs) i)

-- the last element is in the list
pub in_end : {X : Type 0} (x : X) (xs : List X) → IsIn x (xs ++ x ∷ [])
in_end x xs = alike-in (alike_back (last_first x xs)) (in_first x xs)

-- what is in a list is in it with one more at its end
pub in_before : {X : Type 0} {y : X} (x : X) {xs : List X} → IsIn y xs → IsIn y (xs ++ x ∷ [])
in_before x {xs} i = alike-in (alike_back (last_first x xs)) (in_more x i)
