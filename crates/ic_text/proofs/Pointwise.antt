-- Functions that agree on the elements of a list give the same of it.
use Rattle.std.proofs.Common.{◌≡◌, List, [], ◌∷◌, ◌++◌, map, refl, sym, ap, ◌∙◌, Option, Some, None}
use Rattle.std.specs.List.{filter_map, cons_option, flat_map}
use Rattle.std.specs.Prelude.{option_map}
use Rattle.std.proofs.lemmas.List.{map-append}
use Rattle.ic_theory.specs.Orders.{IsIn}
use Rattle.ic_theory.proofs.Picks.{in_first, in_more}

-- lists in a row
pub flat_map_agrees : {X Y : Type 0} (f g : X → List Y) (xs : List X) → ((x : X) → IsIn x xs → f x ≡ g x) → flat_map f xs ≡ flat_map g xs
flat_map_agrees f g [] h = refl
flat_map_agrees f g (x ∷ xs) h = λ u. h x (in_first x xs) u ++ flat_map_agrees f g xs (λ y i. h y (in_more x i)) u

-- what some elements give
pub filter_map_agrees : {X Y Z : Type 0} (f : X → Option Z) (r : Y → Z) (g : X → Option Y) (xs : List X) → ((x : X) → IsIn x xs → f x ≡ option_map r (g x)) → filter_map f xs ≡ map r (filter_map g xs)
filter_map_agrees f r g [] h = refl
filter_map_agrees f r g (x ∷ xs) h = ap (λ o. cons_option o (filter_map f xs)) (h x (in_first x xs)) ∙ go (g x) (filter_map_agrees f r g xs (λ y i. h y (in_more x i)))
  where
    go : (o : Option _) → filter_map f xs ≡ map r (filter_map g xs) → cons_option (option_map r o) (filter_map f xs) ≡ map r (cons_option o (filter_map g xs))
    go None e = e
    go (Some y) e = ap (λ zs. r y ∷ zs) e

-- a map of lists in a row
pub flat_map_mapped : {X Y Z : Type 0} (f : X → List Z) (r : Y → Z) (g : X → List Y) (xs : List X) → ((x : X) → IsIn x xs → f x ≡ map r (g x)) → flat_map f xs ≡ map r (flat_map g xs)
flat_map_mapped f r g [] h = refl
flat_map_mapped f r g (x ∷ xs) h = (λ u. h x (in_first x xs) u ++ flat_map_mapped f r g xs (λ y i. h y (in_more x i)) u) ∙ sym (map-append r (g x) (flat_map g xs))
