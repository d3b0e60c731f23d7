-- Lists read from their ends.
use Rattle.std.proofs.Common.{◌≡◌, List, [], ◌∷◌, ◌++◌, map, reverse, refl, sym, ap, subst, ◌∙◌}
use Rattle.std.proofs.lemmas.List.{map-append, reverse-append}
use Rattle.ic_path.specs.Orders.{Alike, none}
use Rattle.ic_path.proofs.Alikes.{alike_then, alike-cons, append-alike-comm}

-- the first element comes last
pub reverse_more : {X : Type 0} (x : X) (xs : List X) → reverse (x ∷ xs) ≡ reverse xs ++ x ∷ []
reverse_more x xs = reverse-append (x ∷ []) xs

-- a list has the same elements read from its end
pub alike_reverse : {X : Type 0} (xs : List X) → Alike xs (reverse xs)
alike_reverse [] = none
alike_reverse (x ∷ xs) = subst (λ ys. Alike (x ∷ xs) ys) (sym (reverse_more x xs)) (alike_then (alike-cons x (alike_reverse xs)) (append-alike-comm (x ∷ []) (reverse xs)))

-- what is made of each element, read from the end
pub map-reverse : {X Y : Type 0} (f : X → Y) (xs : List X) → map f (reverse xs) ≡ reverse (map f xs)
map-reverse f [] = refl
map-reverse f (x ∷ xs) = ap (map f) (reverse_more x xs) ∙ map-append f (reverse xs) (x ∷ []) ∙ ap (λ ys. ys ++ f x ∷ []) (map-reverse f xs) ∙ sym (reverse_more (f x) (map f xs))
