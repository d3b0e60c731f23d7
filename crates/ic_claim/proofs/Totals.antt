-- Sums over the views, and how often a number stands in a list.
use Rattle.std.proofs.Common.{◌≡◌, ◌≢◌, ℕ, zero, suc, ◌+◌, ◌<◌, ◌≤◌, Bool, true, false, List, [], ◌∷◌, ◌++◌, length, set, sym, refl, ap, arith}
use Rattle.std.specs.Prelude.{nat_eq}
use Rattle.std.proofs.lemmas.Bool.Decides.{nat_tests}
use mathlib.Core.Option.{some, some-injective, some-ne-none}
use lib.ListN.{get_elem?}
use Rattle.ic_claim.specs.declared.view.View.{View}
use Rattle.ic_claim.specs.Counts.{one_if, times, total}

pub one_if-bound : (b : Bool) → one_if b ≤ 1
one_if-bound true = omega arith
one_if-bound false = omega arith

pub one_if-same : (y : ℕ) → one_if (nat_eq y y) ≡ 1
one_if-same y = grind (arith, nat_tests)

pub one_if-apart : (x y : ℕ) → x ≢ y → one_if (nat_eq x y) ≡ 0
one_if-apart x y ne = grind (arith, nat_tests)

pub times-append : (x : ℕ) (xs ys : List ℕ) → times x (xs ++ ys) ≡ times x xs + times x ys
times-append x [] ys = omega arith
times-append x (y ∷ xs) ys = let e = times-append x xs ys in omega arith

-- a view that is there has a place
pub at_length : (views : List View) (k : ℕ) (v : View) → get_elem? views k ≡ some v → k < length views
at_length [] k v at = absurd (some-ne-none v (sym at))
at_length (x ∷ xs) zero v at = omega arith
at_length (x ∷ xs) (suc k) v at = let e = at_length xs k v at in omega arith

-- the total after a change of one view
pub total-set : (f : View → ℕ) (views : List View) (k : ℕ) (v w : View) → get_elem? views k ≡ some v → total f (set views k w) + f v ≡ total f views + f w
total-set f [] k v w at = absurd (some-ne-none v (sym at))
total-set f (x ∷ xs) zero v w at = let e = ap f (some-injective x v at) in omega arith
total-set f (x ∷ xs) (suc k) v w at = let e = total-set f xs k v w at in omega arith

-- a change of one view that f doesn't see
pub total-same : (f : View → ℕ) (views : List View) (k : ℕ) (v w : View) → get_elem? views k ≡ some v → f w ≡ f v → total f (set views k w) ≡ total f views
total-same f views k v w at e = let s = total-set f views k v w at in omega arith

pub total-snoc : (f : View → ℕ) (views : List View) (w : View) → total f (views ++ w ∷ []) ≡ total f views + f w
total-snoc f [] w = omega arith
total-snoc f (x ∷ xs) w = let e = total-snoc f xs w in omega arith

-- one view's part is no more than the total
pub total_part : (f : View → ℕ) (views : List View) (k : ℕ) (v : View) → get_elem? views k ≡ some v → f v ≤ total f views
total_part f [] k v at = absurd (some-ne-none v (sym at))
total_part f (x ∷ xs) zero v at = let e = ap f (some-injective x v at) in omega arith
total_part f (x ∷ xs) (suc k) v at = let e = total_part f xs k v at in omega arith

-- nor are two views' parts together
pub two_parts : (f : View → ℕ) (views : List View) (k j : ℕ) (v u : View) → j ≢ k → get_elem? views k ≡ some v → get_elem? views j ≡ some u → f v + f u ≤ total f views
two_parts f [] k j v u ne at there = absurd (some-ne-none v (sym at))
two_parts f (x ∷ xs) zero zero v u ne at there = absurd (ne refl)
two_parts f (x ∷ xs) zero (suc j) v u ne at there = let e = ap f (some-injective x v at) in let p = total_part f xs j u there in omega arith
two_parts f (x ∷ xs) (suc k) zero v u ne at there = let e = ap f (some-injective x u there) in let p = total_part f xs k v at in omega arith
two_parts f (x ∷ xs) (suc k) (suc j) v u ne at there = let p = two_parts f xs k j v u (λ e. ne (ap suc e)) at there in omega arith
