-- Once all seats came home to the seat with number 0, its tickets are those of all views.
use Rattle.std.proofs.Common.{◌≡◌, ◌≢◌, ℕ, suc, ◌+◌, ◌≤◌, Bool, true, false, List, [], ◌∷◌, length, sym, refl, ap, ◌∙◌, arith}
use Rattle.std.specs.Prelude.{not, nat_lt, slice_index}
use mathlib.Core.Option.{some, some-injective, some-ne-none}
use lib.ListN.{get_elem?}
use Rattle.ic_claim.specs.declared.view.View.{View}
use Rattle.ic_claim.specs.Counts.{one_if, times, total}
use Rattle.ic_claim.specs.Views.{HasAllHome}
use Rattle.ic_claim.specs.Rule.{Agree}
use Rattle.ic_claim.proofs.Totals.{total_part, two_parts}

one_if-not : (b : Bool) → one_if (not b) + one_if b ≡ 1
one_if-not true = refl
one_if-not false = refl

-- each view is spent or not
total-not : (views : List View) → total (λ v. one_if (not v.spent)) views + total (λ v. one_if v.spent) views ≡ length views
total-not [] = refl
total-not (v ∷ vs) = let e = total-not vs in let o = one_if-not v.spent in omega arith

total-zero : (f : View → ℕ) (views : List View) → ((k : ℕ) (u : View) → get_elem? views k ≡ some u → f u ≡ 0) → total f views ≡ 0
total-zero f [] none = refl
total-zero f (v ∷ vs) none = let e = total-zero f vs (λ k u at. none (suc k) u at) in let o = none 0 v refl in omega arith

-- the total is the first view's part where no other has one
total-first : (f : View → ℕ) (views : List View) (v : View) → get_elem? views 0 ≡ some v → ((k : ℕ) (u : View) → k ≢ 0 → get_elem? views k ≡ some u → f u ≡ 0) → total f views ≡ f v
total-first f [] v at none = absurd (some-ne-none v (sym at))
total-first f (x ∷ xs) v at none = let e = total-zero f xs (λ k u there. none (suc k) u (λ h. omega arith) there) in let same = ap f (some-injective x v at) in omega arith

module _ (b : ℕ) (words : List ℕ) (views : List View) (v : View) (h : Agree b words views) (at : get_elem? views 0 ≡ some v) (live : v.spent ≡ false) where
  others_spent : v.homes ≡ v.given → (k : ℕ) (u : View) → k ≢ 0 → get_elem? views k ≡ some u → u.spent ≡ true
  others_spent home k u ne there = by u.spent refl
    where
      by : (c : Bool) → u.spent ≡ c → u.spent ≡ true
      by true is = is
      by false is =
          let parts = two_parts (λ (z : View). one_if (not z.spent)) views 0 k v u ne at there in
          let one : one_if (not v.spent) ≡ 1 = ap (λ (c : Bool). one_if (not c)) live in
          let other : one_if (not u.spent) ≡ 1 = ap (λ (c : Bool). one_if (not c)) is in
          let all = total-not views in
          let same = h.homes in
          let own = total_part (λ (z : View). z.homes) views 0 v at in
          let first : v ≡ h.first.0 = some-injective v h.first.0 (sym at ∙ h.first.1.there) in
          let given : v.given ≡ h.first.0.given = ap (λ (z : View). z.given) first in
          let counted = h.first.1.counted in
          absurd (omega arith)

  pub all_tickets : HasAllHome v → (x : ℕ) → times x v.tickets ≡ one_if (nat_lt x b)
  all_tickets whole x =
      let f = h.fits 0 v at in
      let noted : times 0 v.nones ≡ 1 = f.own_none live ∙ ap one_if whole.done in
      let past : b ≤ slice_index words 1 = f.used_up (λ none. let zero_times : times 0 v.nones ≡ 0 = ap (times 0) none in absurd (omega arith)) in
      let total_is = total-first (λ (z : View). times x z.tickets) views v at (λ k u ne there. ap (λ (z : View). times x z.tickets) ((h.fits k u there).emptied (others_spent whole.home k u ne there))) in
      sym total_is ∙ h.tickets x ∙ ap (λ (n : ℕ). one_if (nat_lt x n)) (omega arith)
