-- Lists of distinct numbers below some n have no more than n elements, and where none is left out, just n.
use Rattle.std.proofs.Common.{◌≡◌, ◌≢◌, ℕ, zero, suc, ◌+◌, ◌<◌, ◌≤◌, List, [], ◌∷◌, length, sym, refl, subst, arith}
use Rattle.std.specs.Prelude.{nat_eq, nat_lt}
use Rattle.std.proofs.lemmas.Bool.Decides.{nat_tests}
use mathlib.Core.Logic.{dite}
use native.Mathlib.Decide.{ℕ_discrete}
use mathlib.Core.Option.{some}
use lib.ListN.{get_elem?}
use Rattle.ic_claim.specs.declared.view.View.{View}
use Rattle.ic_claim.specs.Counts.{one_if, times, total}
use Rattle.ic_claim.proofs.Totals.{one_if-bound, one_if-same, one_if-apart, total_part}

-- f of each number below n, added up
upto : (ℕ → ℕ) → ℕ → ℕ
upto f zero = 0
upto f (suc n) = f n + upto f n

upto_few : (f : ℕ → ℕ) (n : ℕ) → ((x : ℕ) → f x ≤ 1) → upto f n ≤ n
unfolding upto
upto_few f zero h = omega arith
upto_few f (suc n) h = let here = h n in let e = upto_few f n h in omega arith

upto_all : (f : ℕ → ℕ) (n : ℕ) → ((x : ℕ) → x < n → f x ≡ 1) → upto f n ≡ n
unfolding upto
upto_all f zero h = refl
upto_all f (suc n) h = let here = h n (omega arith) in let e = upto_all f n (λ x lt. h x (omega arith)) in omega arith

upto-plus : (f g : ℕ → ℕ) (n : ℕ) → upto (λ x. f x + g x) n ≡ upto f n + upto g n
unfolding upto
upto-plus f g zero = omega arith
upto-plus f g (suc n) = let e = upto-plus f g n in omega arith

upto-none : (n : ℕ) → upto (λ x. 0) n ≡ 0
unfolding upto
upto-none zero = refl
upto-none (suc n) = let e = upto-none n in omega arith

-- y is among the numbers below n
upto_has : (y n : ℕ) → y < n → 1 ≤ upto (λ x. one_if (nat_eq y x)) n
unfolding upto
upto_has y zero h = absurd (omega arith)
upto_has y (suc n) h = dite (ℕ_discrete y n)
    (λ (e : y ≡ n). let s = one_if-same n in subst (λ (z : ℕ). 1 ≤ one_if (nat_eq z n) + upto (λ x. one_if (nat_eq z x)) n) (sym e) (omega arith))
    (λ (ne : y ≢ n). let r = upto_has y n (omega arith) in omega arith)

-- y isn't among the numbers below n if it is not below n itself
upto_past : (y n : ℕ) → n ≤ y → upto (λ x. one_if (nat_eq y x)) n ≡ 0
unfolding upto
upto_past y zero h = refl
upto_past y (suc n) h = let s = one_if-apart y n (λ e. omega arith) in let r = upto_past y n (omega arith) in omega arith

-- and it is there once
upto_once : (y n : ℕ) → upto (λ x. one_if (nat_eq y x)) n ≤ 1
unfolding upto
upto_once y zero = omega arith
upto_once y (suc n) = dite (ℕ_discrete y n)
    (λ (e : y ≡ n). let s = one_if-bound (nat_eq y n) in let r = upto_past y n (omega arith) in omega arith)
    (λ (ne : y ≢ n). let s = one_if-apart y n ne in let r = upto_once y n in omega arith)

below_one : (y n k : ℕ) → 1 ≤ k → k ≤ one_if (nat_lt y n) → y < n
below_one y n k has few = grind (arith, nat_tests)

one_if-below : (x n : ℕ) → x < n → one_if (nat_lt x n) ≡ 1
one_if-below x n lt = grind (arith, nat_tests)

-- numbers below n are counted below n
covered : (n : ℕ) (xs : List ℕ) → ((x : ℕ) → 1 ≤ times x xs → x < n) → length xs ≤ upto (λ x. times x xs) n
covered n [] h = omega arith
covered n (y ∷ ys) h =
    let here = upto_has y n (h y (let s = one_if-same y in omega arith)) in
    let rest = covered n ys (λ x has. h x (omega arith)) in
    let both = upto-plus (λ x. one_if (nat_eq y x)) (λ x. times x ys) n in
    omega arith

-- no number is counted more often than it stands there
counted : (n : ℕ) (xs : List ℕ) → upto (λ x. times x xs) n ≤ length xs
counted n [] = let e = upto-none n in omega arith
counted n (y ∷ ys) =
    let here = upto_once y n in
    let rest = counted n ys in
    let both = upto-plus (λ x. one_if (nat_eq y x)) (λ x. times x ys) n in
    omega arith

-- distinct numbers below n are at most n
pub few_numbers : (n : ℕ) (xs : List ℕ) → ((x : ℕ) → times x xs ≤ one_if (nat_lt x n)) → length xs ≤ n
few_numbers n xs h =
    let c = covered n xs (λ x has. below_one x n (times x xs) has (h x)) in
    let u = upto_few (λ x. times x xs) n (λ x. let a = h x in let b = one_if-bound (nat_lt x n) in omega arith) in
    omega arith

module _ (n : ℕ) (q : View → List ℕ) where
  all_covered : (views : List View) → ((k : ℕ) (v : View) → get_elem? views k ≡ some v → (x : ℕ) → 1 ≤ times x (q v) → x < n)
      → total (λ v. length (q v)) views ≤ upto (λ x. total (λ v. times x (q v)) views) n
  all_covered [] below = omega arith
  all_covered (v ∷ vs) below =
      let here = covered n (q v) (below 0 v refl) in
      let rest = all_covered vs (λ k u at. below (suc k) u at) in
      let both = upto-plus (λ x. times x (q v)) (λ x. total (λ u. times x (q u)) vs) n in
      omega arith

  all_counted : (views : List View) → upto (λ x. total (λ v. times x (q v)) views) n ≤ total (λ v. length (q v)) views
  all_counted [] = let e = upto-none n in omega arith
  all_counted (v ∷ vs) =
      let here = counted n (q v) in
      let rest = all_counted vs in
      let both = upto-plus (λ x. times x (q v)) (λ x. total (λ u. times x (q u)) vs) n in
      omega arith

  -- distinct numbers below n in all views together are at most n
  pub few_in_all : (views : List View) → ((x : ℕ) → total (λ v. times x (q v)) views ≤ one_if (nat_lt x n)) → total (λ v. length (q v)) views ≤ n
  few_in_all views h =
      let c = all_covered views (λ k v at x has. below_one x n (total (λ u. times x (q u)) views) (let p = total_part (λ u. times x (q u)) views k v at in omega arith) (h x)) in
      let u = upto_few (λ x. total (λ v. times x (q v)) views) n (λ x. let a = h x in let b = one_if-bound (nat_lt x n) in omega arith) in
      omega arith

  -- and where none is left out, they are n
  pub all_in_all : (views : List View) → ((x : ℕ) → total (λ v. times x (q v)) views ≡ one_if (nat_lt x n)) → total (λ v. length (q v)) views ≡ n
  all_in_all views h =
      let most = few_in_all views (λ x. let e = h x in omega arith) in
      let least = all_counted views in
      let u = upto_all (λ x. total (λ v. times x (q v)) views) n (λ x lt. let e = h x in let one = one_if-below x n lt in omega arith) in
      omega arith
