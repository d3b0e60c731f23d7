-- How many elements of a list pass a test.
use Rattle.std.proofs.Common.{◌≡◌, ℕ, ◌+◌, Bool, List, [], ◌∷◌, ◌++◌, length, map, refl, arith}
use Rattle.std.specs.Prelude.{cond, count_by}
use Rattle.std.specs.List.{AllByRecursion}
use Rattle.std.proofs.lemmas.List.Recursion.{is_sum_by}
use Rattle.ic_theory.specs.Orders.{Pick, here, there, Alike, none, more}

-- the count, element by element
abbrev pub tally : {X : Type 0} → (X → Bool) → List X → ℕ
tally p [] = 0
tally p (x ∷ xs) = cond (p x) 1 0 + tally p xs

-- the counts agree
pub tally_is : {X : Type 0} (p : X → Bool) (xs : List X) → tally p xs ≡ count_by p xs
tally_is p xs = is_sum_by (tally p) (λ x. cond (p x) 1 0) refl (λ x ys. refl) xs

-- of two lists in a row
pub tally-append : {X : Type 0} (p : X → Bool) (xs ys : List X) → tally p (xs ++ ys) ≡ tally p xs + tally p ys
tally-append p [] ys = omega arith
tally-append p (x ∷ xs) ys = omega (arith, tally-append p xs ys)

-- of what a function gives
pub tally_map : {X Y : Type 0} (p : X → Bool) (q : Y → Bool) (f : X → Y) (xs : List X) → AllByRecursion (λ x. q (f x) ≡ p x) xs → tally q (map f xs) ≡ tally p xs
tally_map p q f [] h = refl
tally_map p q f (x ∷ xs) h = λ u. cond (h.0 u) 1 0 + tally_map p q f xs h.1 u

-- without one element
tally_pick : {X : Type 0} (p : X → Bool) {x : X} {xs rest : List X} → Pick x xs rest → tally p xs ≡ cond (p x) 1 0 + tally p rest
tally_pick p here = refl
tally_pick p (there k) = omega (arith, tally_pick p k)

-- the order doesn't matter
pub alike_tally : {X : Type 0} (p : X → Bool) {xs ys : List X} → Alike xs ys → tally p xs ≡ tally p ys
alike_tally p none = refl
alike_tally p (more k a) = omega (arith, tally_pick p k, alike_tally p a)

-- where each element passes one of two tests, and one alone, the counts are the length
pub tally_either : {X : Type 0} (p q : X → Bool) (xs : List X) → AllByRecursion (λ x. cond (p x) 1 0 + cond (q x) 1 0 ≡ 1) xs → tally p xs + tally q xs ≡ length xs
tally_either p q [] h = omega arith
tally_either p q (x ∷ xs) h = let one = h.0 in omega (arith, one, tally_either p q xs h.1)
