-- What follows from the rule.
use Rattle.std.proofs.Common.{◌≡◌, ℕ, ◌+◌, ◌≤◌, Some, List, length, arith}
use Rattle.std.specs.Prelude.{nat_lt, min, slice_index}
use mathlib.Core.Option.{some}
use lib.ListN.{get_elem?}
use Rattle.ic_claim.specs.declared.view.View.{View}
use Rattle.ic_claim.specs.Counts.{times, total}
use Rattle.ic_claim.specs.Rule.{Agree}
use Rattle.ic_claim.proofs.Totals.{one_if-bound}
use Rattle.ic_claim.proofs.Numbers.{all_in_all}
use Rattle.ic_claim.proofs.Drawing.{few_nones}

pub same_holder : (b : ℕ) (words : List ℕ) (views : List View) (j k w : ℕ) (u v : View) → Agree b words views
    → get_elem? views j ≡ some u → get_elem? views k ≡ some v → u.held ≡ Some w → v.held ≡ Some w → j ≡ k
same_holder b words views j k w u v h there at u_holds v_holds =
    let a = ((h.fits j u there).holds w u_holds).1 in
    let c = ((h.fits k v at).holds w v_holds).1 in
    omega arith

pub distinct_tickets : (b : ℕ) (words : List ℕ) (views : List View) (x : ℕ) → Agree b words views → total (λ v. times x v.tickets) views ≤ 1
distinct_tickets b words views x h =
    let t = h.tickets x in
    let m = one_if-bound (nat_lt x (min (slice_index words 1) b)) in
    omega arith

pub counted_tickets : (b : ℕ) (words : List ℕ) (views : List View) → Agree b words views → total (λ v. length v.tickets) views ≡ min (slice_index words 1) b
counted_tickets b words views h = all_in_all (min (slice_index words 1) b) (λ v. v.tickets) views h.tickets

pub bounded_tickets : (b : ℕ) (words : List ℕ) (views : List View) → Agree b words views → slice_index words 1 ≤ b + 64
bounded_tickets b words views h =
    let few = few_nones b words views h in
    let over = h.over in
    omega arith
