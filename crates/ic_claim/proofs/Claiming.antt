-- Taking a free claim word and leaving it keep the rule, and so does finding it held.
use Rattle.std.proofs.Common.{◌≡◌, ◌≢◌, ℕ, ◌+◌, ◌<◌, Some, None, false, true≢false, List, length, set, sym, refl, ap, ◌∙◌, subst, inl, inr, arith, get_or-set_same, get_or-set_other}
use Rattle.std.specs.Prelude.{nat_lt, slice_index, slice_set, min}
use Rattle.std.proofs.Math.ListN.{length-set}
use mathlib.Core.Option.{some}
use mathlib.Core.Logic.{dite}
use native.Mathlib.Decide.{ℕ_discrete}
use lib.ListN.{get_elem?}
use Rattle.atomic_table.proofs.Lists.{set_here}
use Rattle.ic_claim.specs.declared.view.View.{View}
use Rattle.ic_claim.specs.Counts.{one_if, times}
use Rattle.ic_claim.specs.Rule.{Agree, word_of_claim}
use Rattle.ic_claim.proofs.Totals.{at_length, total-same}
use Rattle.ic_claim.proofs.Others.{fits_after, claim_after, first_after}

module _ (b : ℕ) (words : List ℕ) (views : List View) (k : ℕ) (v : View) (x : ℕ) (h : Agree b words views) (at : get_elem? views k ≡ some v) (live : v.spent ≡ false) where
  -- the seat takes the free word x
  pub takes_free : v.held ≡ None → x < 1024 → slice_index words (x + 2) ≡ 0 → Agree b (slice_set words (x + 2) (k + 1)) (set views k (record v { held = Some x }))
  takes_free holds_none small free =
      let w : View = record v { held = Some x } in
      let now : List ℕ = slice_set words (x + 2) (k + 1) in
      let places : length words ≡ 1026 = h.places in
      let here : word_of_claim now x ≡ k + 1 = get_or-set_same words (x + 2) (k + 1) 0 (omega arith) in
      let other : (y : ℕ) → y ≢ x + 2 → slice_index now y ≡ slice_index words y = λ y ne. get_or-set_other words (x + 2) y (k + 1) 0 ne in
      let ticket : slice_index now 1 ≡ slice_index words 1 = other 1 (λ e. omega arith) in
      let stop : slice_index now 0 ≡ slice_index words 0 = other 0 (λ e. omega arith) in
      let f = h.fits k v at in
      let len : length (set views k w) ≡ length views = simp length-set in
      record {
        places = simp length-set h.places;
        bounded = h.bounded;
        first = first_after views k v w at refl refl h.first;
        fits = fits_after b words now views k v w at (omega arith) (λ one. stop ∙ one)
            (λ j y u ne there held. other (y + 2) (λ e. let g = (h.fits j u there).holds y held in let o = g.1 in let same = ap (slice_index words) e in omega arith))
            (λ j ne. refl)
            h.fits
            record {
              numbered = f.numbered;
              budgeted = f.budgeted;
              emptied = λ spent. absurd (true≢false (sym spent ∙ live));
              holds = λ y held. let same : x ≡ y = cc in subst (λ (z : ℕ). (z < 1024) × (word_of_claim now z ≡ k + 1)) same (small, here);
              told = λ knows. stop ∙ f.told knows;
              used_up = λ some_none. let g = f.used_up some_none in omega arith;
              own_none = f.own_none;
              kept_none = λ l. total-same (λ (z : View). times k z.nones) views k v w at refl ∙ f.kept_none l;
            };
        claims = λ y lt. dite (ℕ_discrete y x)
            (λ (e : y ≡ x). inr record {
              seat = k;
              view = w;
              there = set_here views k w (at_length views k v at);
              held = ap (λ (i : ℕ). Some i) (sym e);
              named = ap (word_of_claim now) e ∙ here;
            })
            (λ (ne : y ≢ x). claim_after words now views k v w y at (λ held. absurd (cc (holds_none, held))) (other (y + 2) (λ e. ne (omega arith))) (h.claims y lt));
        tickets = λ y. total-same (λ (z : View). times y z.tickets) views k v w at refl ∙ h.tickets y ∙ sym (ap (λ (i : ℕ). one_if (nat_lt y (min i b))) ticket);
        nones = λ y.
            let s = total-same (λ (z : View). times y z.nones) views k v w at refl in
            let t = h.nones y in
            let p = ap (λ (i : ℕ). one_if (nat_lt y i)) len in
            omega arith;
        over = let s = total-same (λ (z : View). length z.nones) views k v w at refl in let t = h.over in omega arith;
        homes = total-same (λ (z : View). z.homes) views k v w at refl ∙ h.homes ∙ sym (total-same (λ (z : View). one_if z.spent) views k v w at refl);
        stop = stop ∙ h.stop ∙ sym (ap (λ (i : ℕ). one_if (nat_lt 0 i)) (total-same (λ (z : View). z.stops) views k v w at refl));
      }

  -- the seat leaves the word x that it holds
  pub leaves_word : v.held ≡ Some x → Agree b (slice_set words (x + 2) 0) (set views k (record v { held = None }))
  leaves_word holds_x =
      let w : View = record v { held = None } in
      let now : List ℕ = slice_set words (x + 2) 0 in
      let places : length words ≡ 1026 = h.places in
      let f = h.fits k v at in
      let mine = f.holds x holds_x in
      let small : x < 1024 = mine.0 in
      let here : word_of_claim now x ≡ 0 = get_or-set_same words (x + 2) 0 0 (omega arith) in
      let other : (y : ℕ) → y ≢ x + 2 → slice_index now y ≡ slice_index words y = λ y ne. get_or-set_other words (x + 2) y 0 0 ne in
      let ticket : slice_index now 1 ≡ slice_index words 1 = other 1 (λ e. omega arith) in
      let stop : slice_index now 0 ≡ slice_index words 0 = other 0 (λ e. omega arith) in
      let len : length (set views k w) ≡ length views = simp length-set in
      record {
        places = simp length-set h.places;
        bounded = h.bounded;
        first = first_after views k v w at refl refl h.first;
        fits = fits_after b words now views k v w at (omega arith) (λ one. stop ∙ one)
            (λ j y u ne there held. other (y + 2) (λ e. let o = ((h.fits j u there).holds y held).1 in let m = mine.1 in let same = ap (slice_index words) e in ne (omega arith)))
            (λ j ne. refl)
            h.fits
            record {
              numbered = f.numbered;
              budgeted = f.budgeted;
              emptied = λ spent. absurd (true≢false (sym spent ∙ live));
              holds = λ y held. absurd (cc held);
              told = λ knows. stop ∙ f.told knows;
              used_up = λ some_none. let g = f.used_up some_none in omega arith;
              own_none = f.own_none;
              kept_none = λ l. total-same (λ (z : View). times k z.nones) views k v w at refl ∙ f.kept_none l;
            };
        claims = λ y lt. dite (ℕ_discrete y x)
            (λ (e : y ≡ x). inl (ap (word_of_claim now) e ∙ here))
            (λ (ne : y ≢ x). claim_after words now views k v w y at (λ held. let same : y ≡ x = cc in absurd (ne same)) (other (y + 2) (λ e. ne (omega arith))) (h.claims y lt));
        tickets = λ y. total-same (λ (z : View). times y z.tickets) views k v w at refl ∙ h.tickets y ∙ sym (ap (λ (i : ℕ). one_if (nat_lt y (min i b))) ticket);
        nones = λ y.
            let s = total-same (λ (z : View). times y z.nones) views k v w at refl in
            let t = h.nones y in
            let p = ap (λ (i : ℕ). one_if (nat_lt y i)) len in
            omega arith;
        over = let s = total-same (λ (z : View). length z.nones) views k v w at refl in let t = h.over in omega arith;
        homes = total-same (λ (z : View). z.homes) views k v w at refl ∙ h.homes ∙ sym (total-same (λ (z : View). one_if z.spent) views k v w at refl);
        stop = stop ∙ h.stop ∙ sym (ap (λ (i : ℕ). one_if (nat_lt 0 i)) (total-same (λ (z : View). z.stops) views k v w at refl));
      }
