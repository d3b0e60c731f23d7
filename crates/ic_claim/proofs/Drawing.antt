-- A draw keeps the rule.
use Rattle.std.proofs.lemmas.Bool.Decides.{nat_tests}
use Rattle.std.proofs.Common.{rules, ◌≡◌, ◌≢◌, ℕ, ◌+◌, ◌<◌, ◌≤◌, true, false, true≢false, List, [], ◌∷◌, length, set, sym, refl, ap, ◌∙◌, subst, arith, get_or-set_same, get_or-set_other, length-append}
use Rattle.std.specs.Prelude.{nat_eq, nat_lt, slice_index, slice_set, min}
use Rattle.std.proofs.Math.ListN.{length-set}
use mathlib.Core.Option.{some}
use mathlib.Core.Logic.{dite}
use native.Mathlib.Decide.{ℕ_discrete}
use lib.ListN.{get_elem?}
use Rattle.ic_claim.specs.declared.view.View.{View}
use Rattle.ic_claim.specs.Counts.{one_if, times, total}
use Rattle.ic_claim.specs.Views.{with_ticket, with_none}
use Rattle.ic_claim.specs.Rule.{Agree, word_of_claim}
use Rattle.ic_claim.proofs.Totals.{at_length, times-append, total-set, total-same, one_if-same, one_if-apart}
use Rattle.ic_claim.proofs.Numbers.{few_in_all}
use Rattle.ic_claim.proofs.Others.{fits_after, claim_after, first_after}

pub nat_lt-not : (m n : ℕ) → n ≤ m → nat_lt m n ≡ false
nat_lt-not m n h = search rules

pub nat_lt-yes : (m n : ℕ) → m < n → nat_lt m n ≡ true
nat_lt-yes m n h = search rules

-- there are no more Nones than seats
pub few_nones : (b : ℕ) (words : List ℕ) (views : List View) → Agree b words views → total (λ v. length v.nones) views ≤ 64
few_nones b words views h =
    let few = few_in_all (length views) (λ v. v.nones) views h.nones in
    let counted = h.first.1.counted in
    let most = h.first.1.most in
    omega arith

-- one number more is given
one_if-next : (x n b : ℕ) → n < b → one_if (nat_lt x (min (n + 1) b)) ≡ one_if (nat_lt x (min n b)) + one_if (nat_eq n x)
one_if-next x n b h = grind (arith, nat_tests)

module _ (b : ℕ) (words : List ℕ) (views : List View) (k : ℕ) (v : View) (h : Agree b words views) (at : get_elem? views k ≡ some v) (live : v.spent ≡ false) where
  -- the seat gets a ticket
  pub draws_ticket : slice_index words 1 < b → Agree b (slice_set words 1 (slice_index words 1 + 1)) (set views k (with_ticket v (slice_index words 1)))
  draws_ticket lt =
      let n : ℕ = slice_index words 1 in
      let w : View = with_ticket v n in
      let now : List ℕ = slice_set words 1 (n + 1) in
      let places : length words ≡ 1026 = h.places in
      let ticket : slice_index now 1 ≡ n + 1 = get_or-set_same words 1 (n + 1) 0 (omega arith) in
      let stop : slice_index now 0 ≡ slice_index words 0 = get_or-set_other words 1 0 (n + 1) 0 (λ e. omega arith) in
      let claim : (x : ℕ) → word_of_claim now x ≡ word_of_claim words x = λ x. get_or-set_other words 1 (x + 2) (n + 1) 0 (λ e. omega arith) in
      let f = h.fits k v at in
      let len : length (set views k w) ≡ length views = simp length-set in
      record {
        places = simp length-set h.places;
        bounded = h.bounded;
        first = first_after views k v w at refl refl h.first;
        fits = fits_after b words now views k v w at (omega arith) (λ one. stop ∙ one) (λ j x u ne there held. claim x) (λ j ne. refl) h.fits
            record {
              numbered = f.numbered;
              budgeted = f.budgeted;
              emptied = λ spent. absurd (true≢false (sym spent ∙ live));
              holds = λ x held. let g = f.holds x held in (g.0, claim x ∙ g.1);
              told = λ knows. stop ∙ f.told knows;
              used_up = λ some_none. let g = f.used_up some_none in omega arith;
              own_none = f.own_none;
              kept_none = λ l. total-same (λ (z : View). times k z.nones) views k v w at refl ∙ f.kept_none l;
            };
        claims = λ x lt'. claim_after words now views k v w x at (λ held. held) (claim x) (h.claims x lt');
        tickets = λ x.
            let s = total-set (λ (z : View). times x z.tickets) views k v w at in
            let t = h.tickets x in
            let a = times-append x v.tickets (n ∷ []) in
            let o = one_if-next x n b lt in
            let p : one_if (nat_lt x (min (slice_index now 1) b)) ≡ one_if (nat_lt x (min (n + 1) b)) = ap (λ (i : ℕ). one_if (nat_lt x (min i b))) ticket in
            omega arith;
        nones = λ x.
            let s = total-same (λ (z : View). times x z.nones) views k v w at refl in
            let t = h.nones x in
            let p : one_if (nat_lt x (length (set views k w))) ≡ one_if (nat_lt x (length views)) = ap (λ (i : ℕ). one_if (nat_lt x i)) len in
            omega arith;
        over = let s = total-same (λ (z : View). length z.nones) views k v w at refl in let t = h.over in omega arith;
        homes = total-same (λ (z : View). z.homes) views k v w at refl ∙ h.homes ∙ sym (total-same (λ (z : View). one_if z.spent) views k v w at refl);
        stop = stop ∙ h.stop ∙ sym (ap (λ (i : ℕ). one_if (nat_lt 0 i)) (total-same (λ (z : View). z.stops) views k v w at refl));
      }

  -- the seat gets its one None
  pub draws_none : b ≤ slice_index words 1 → v.done ≡ false → Agree b (slice_set words 1 (slice_index words 1 + 1)) (set views k (with_none v))
  draws_none over not_done =
      let n : ℕ = slice_index words 1 in
      let w : View = with_none v in
      let now : List ℕ = slice_set words 1 (n + 1) in
      let places : length words ≡ 1026 = h.places in
      let ticket : slice_index now 1 ≡ n + 1 = get_or-set_same words 1 (n + 1) 0 (omega arith) in
      let stop : slice_index now 0 ≡ slice_index words 0 = get_or-set_other words 1 0 (n + 1) 0 (λ e. omega arith) in
      let claim : (x : ℕ) → word_of_claim now x ≡ word_of_claim words x = λ x. get_or-set_other words 1 (x + 2) (n + 1) 0 (λ e. omega arith) in
      let f = h.fits k v at in
      let own : v.number ≡ k = f.numbered live in
      let kth : k < length views = at_length views k v at in
      let zero_done : one_if v.done ≡ 0 = ap one_if not_done in
      let before : times k v.nones ≡ 0 = f.own_none live ∙ zero_done in
      let more : (x : ℕ) → times x w.nones ≡ times x v.nones + one_if (nat_eq v.number x) = λ x. let a = times-append x v.nones (v.number ∷ []) in omega arith in
      let self : one_if (nat_eq v.number k) ≡ 1 = ap (λ (i : ℕ). one_if (nat_eq i k)) own ∙ one_if-same k in
      let mine = more k in
      let len : length (set views k w) ≡ length views = simp length-set in
      record {
        places = simp length-set h.places;
        bounded = h.bounded;
        first = first_after views k v w at refl refl h.first;
        fits = fits_after b words now views k v w at (omega arith) (λ one. stop ∙ one) (λ j x u ne there held. claim x)
            (λ j ne. let a = more j in let z = one_if-apart v.number j (λ e. ne (sym e ∙ own)) in omega arith)
            h.fits
            record {
              numbered = f.numbered;
              budgeted = f.budgeted;
              emptied = λ spent. absurd (true≢false (sym spent ∙ live));
              holds = λ x held. let g = f.holds x held in (g.0, claim x ∙ g.1);
              told = λ knows. stop ∙ f.told knows;
              used_up = λ some_none. omega arith;
              own_none = λ l. omega arith;
              kept_none = λ l. let g = f.kept_none live in let s = total-set (λ (z : View). times k z.nones) views k v w at in omega arith;
            };
        claims = λ x lt'. claim_after words now views k v w x at (λ held. held) (claim x) (h.claims x lt');
        tickets = λ x.
            let s = total-same (λ (z : View). times x z.tickets) views k v w at refl in
            let t = h.tickets x in
            let p : one_if (nat_lt x (min (slice_index now 1) b)) ≡ one_if (nat_lt x (min (n + 1) b)) = ap (λ (i : ℕ). one_if (nat_lt x (min i b))) ticket in
            let o : one_if (nat_lt x (min (n + 1) b)) ≡ one_if (nat_lt x (min n b)) = ap (λ (i : ℕ). one_if (nat_lt x i)) (omega arith) in
            omega arith;
        nones = λ x. dite (ℕ_discrete x k)
            (λ (e : x ≡ k).
            let s = total-set (λ (z : View). times k z.nones) views k v w at in
            let g = f.kept_none live in
            let p : one_if (nat_lt k (length (set views k w))) ≡ 1 = ap (λ (i : ℕ). one_if (nat_lt k i)) len ∙ ap one_if (nat_lt-yes k (length views) kth) in
            subst (λ (i : ℕ). total (λ (z : View). times i z.nones) (set views k w) ≤ one_if (nat_lt i (length (set views k w)))) (sym e) (omega arith))
            (λ (ne : x ≢ k).
            let s = total-set (λ (z : View). times x z.nones) views k v w at in
            let t = h.nones x in
            let a = more x in
            let z = one_if-apart v.number x (λ e. ne (sym e ∙ own)) in
            let p : one_if (nat_lt x (length (set views k w))) ≡ one_if (nat_lt x (length views)) = ap (λ (i : ℕ). one_if (nat_lt x i)) len in
            omega arith);
        over =
            let lens = total-set (λ (z : View). length z.nones) views k v w at in
            let longer : length w.nones ≡ length v.nones + 1 = simp length-append in
            let t = h.over in
            omega arith;
        homes = total-same (λ (z : View). z.homes) views k v w at refl ∙ h.homes ∙ sym (total-same (λ (z : View). one_if z.spent) views k v w at refl);
        stop = stop ∙ h.stop ∙ sym (ap (λ (i : ℕ). one_if (nat_lt 0 i)) (total-same (λ (z : View). z.stops) views k v w at refl));
      }
