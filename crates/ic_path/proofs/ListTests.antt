-- Tests for elements of lists.
use Rattle.std.proofs.Common.{None, Option, ◌≡◌, ℕ, ◌+◌, cond, Some, Bool, true, false, ◌||◌, List, [], ◌∷◌, ◌++◌, refl, sym, ◌∙◌, ap, subst, Option, IsSome}
use Rattle.std.specs.Prelude.{is_some, position}
use Rattle.std.specs.List.{list_any, position_from}
use Rattle.std.proofs.lemmas.Iterator.Adapters.{position_from-zero}
use Rattle.ic_path.specs.Orders.{Pick, here, there, Alike, none, more, IsIn}
use Rattle.ic_path.proofs.Picks.{in_first, in_more}

-- a test finds what is in the list and passes
pub any-picked : {X : Type 0} (test : X → Bool) {x : X} {xs rest : List X} → Pick x xs rest → test x ≡ true → list_any test xs ≡ true
any-picked test here h = rw h refl
any-picked test (there {y = y} k) h = or_true (test y) (any-picked test k h)
  where
    or_true : (b : Bool) {c : Bool} → c ≡ true → b || c ≡ true
    or_true true e = refl
    or_true false e = e

-- what a test finds is in the list, where only one thing passes
pub any_in : {X : Type 0} (test : X → Bool) (x : X) (xs : List X) → ((y : X) → test y ≡ true → x ≡ y) → list_any test xs ≡ true → IsIn x xs
any_in test x [] one h = cc
any_in {X} test x (y ∷ ys) one h = by (test y) refl h (any_in test x ys one)
  where
    by : (b : Bool) → test y ≡ b → b || list_any test ys ≡ true → (list_any test ys ≡ true → IsIn x ys) → IsIn x (y ∷ ys)
    by true e i f = subst (λ z. IsIn z (y ∷ ys)) (sym (one y e)) (in_first y ys)
    by false e i f = in_more y (f i)

-- what a test finds with one more at the end
pub any-end : {X : Type 0} (test : X → Bool) (x : X) (xs : List X) → list_any test (xs ++ x ∷ []) ≡ list_any test xs || test x
any-end test x [] = or_false (test x)
  where
    or_false : (b : Bool) → b || false ≡ b
    or_false true = refl
    or_false false = refl
any-end test x (y ∷ ys) = by (test y) (any-end test x ys)
  where
    by : (b : Bool) → list_any test (ys ++ x ∷ []) ≡ list_any test ys || test x → b || list_any test (ys ++ x ∷ []) ≡ (b || list_any test ys) || test x
    by true e = refl
    by false e = e

-- a place is found where an element passes
found_from : {X : Type 0} (test : X → Bool) (i : ℕ) (xs : List X) → is_some (position_from test i xs) ≡ list_any test xs
found_from test i [] = refl
found_from test i (x ∷ xs) = by (test x) (found_from test (i + 1) xs)
  where
    by : (b : Bool) → is_some (position_from test (i + 1) xs) ≡ list_any test xs → is_some (cond b (Some i) (position_from test (i + 1) xs)) ≡ b || list_any test xs
    by true e = refl
    by false e = e

-- the same where places count from 0
pub found_any : {X : Type 0} (test : X → Bool) (xs : List X) → is_some (position test xs) ≡ list_any test xs
found_any test xs = ap is_some (position_from-zero test xs) ∙ found_from test 0 xs

-- a test finds what is picked, or something else
any-pick : {X : Type 0} (test : X → Bool) {x : X} {xs rest : List X} → Pick x xs rest → list_any test xs ≡ test x || list_any test rest
any-pick test here = refl
any-pick {X} test {x} (there {y = y} {rest = rest} k) = ap (λ b. test y || b) (any-pick test k) ∙ or_swaps (test y) (test x) (list_any test rest)
  where
    or_swaps : (a b c : Bool) → a || (b || c) ≡ b || (a || c)
    or_swaps true true c = refl
    or_swaps true false c = refl
    or_swaps false b c = refl

-- lists that are the same up to order pass the same tests
pub any-alike : {X : Type 0} (test : X → Bool) {xs ys : List X} → Alike xs ys → list_any test xs ≡ list_any test ys
any-alike test none = refl
any-alike test (more {x = x} k a) = ap (λ b. test x || b) (any-alike test a) ∙ sym (any-pick test k)

-- what is there, of an option that has something
pub the_one : {X : Type 0} (o : Option X) → IsSome o → (x : X) × (o ≡ Some x)
the_one None h = absurd cc
the_one (Some x) h = (x, refl)
