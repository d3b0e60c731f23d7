-- Asking all to stop keeps the rule, and so does what a seat only notes.
use Rattle.std.proofs.Common.{◌≡◌, ◌≢◌, ℕ, ◌+◌, Bool, true, false, true≢false, List, length, set, sym, refl, ap, ◌∙◌, arith, get_or-set_same, get_or-set_other}
use Rattle.std.specs.Prelude.{nat_lt, slice_index, slice_set, min, bit_or}
use Rattle.std.proofs.Math.ListN.{length-set}
use mathlib.Core.Option.{some}
use lib.ListN.{get_elem?}
use Rattle.ic_claim.specs.declared.view.View.{View}
use Rattle.ic_claim.specs.Counts.{one_if, times, total}
use Rattle.ic_claim.specs.Rule.{Agree, word_of_claim}
use Rattle.ic_claim.proofs.Totals.{total-set, total-same}
use Rattle.ic_claim.proofs.Others.{fits_after, claim_after, first_after}
use Rattle.ic_claim.proofs.Drawing.{nat_lt-yes}

-- the stop word is 1 after it was asked, whatever it was
pub stop_set : (b : Bool) → bit_or (one_if b) 1 ≡ 1
stop_set true = refl
stop_set false = refl

module _ (b : ℕ) (words : List ℕ) (views : List View) (k : ℕ) (v : View) (h : Agree b words views) (at : get_elem? views k ≡ some v) (live : v.spent ≡ false) where
  -- the seat notes that it found a word held, or what it found of the stop word
  pub notes : (refusals : ℕ) (stopped : Bool) → (stopped ≡ true → slice_index words 0 ≡ 1) → Agree b words (set views k (record v { stopped = stopped; refusals = refusals }))
  notes refusals stopped right =
      let w : View = record v { stopped = stopped; refusals = refusals } in
      let f = h.fits k v at in
      let len : length (set views k w) ≡ length views = simp length-set in
      record {
        places = h.places;
        bounded = h.bounded;
        first = first_after views k v w at refl refl h.first;
        fits = fits_after b words words views k v w at (omega arith) (λ one. one) (λ j y u ne there held. refl) (λ j ne. refl) h.fits
            record {
              numbered = f.numbered;
              budgeted = f.budgeted;
              emptied = λ spent. absurd (true≢false (sym spent ∙ live));
              holds = f.holds;
              told = right;
              used_up = f.used_up;
              own_none = f.own_none;
              kept_none = λ l. total-same (λ (z : View). times k z.nones) views k v w at refl ∙ f.kept_none l;
            };
        claims = λ y lt. claim_after words words views k v w y at (λ held. held) refl (h.claims y lt);
        tickets = λ y. total-same (λ (z : View). times y z.tickets) views k v w at refl ∙ h.tickets y;
        nones = λ y.
            let s = total-same (λ (z : View). times y z.nones) views k v w at refl in
            let t = h.nones y in
            let p = ap (λ (i : ℕ). one_if (nat_lt y i)) len in
            omega arith;
        over = let s = total-same (λ (z : View). length z.nones) views k v w at refl in let t = h.over in omega arith;
        homes = total-same (λ (z : View). z.homes) views k v w at refl ∙ h.homes ∙ sym (total-same (λ (z : View). one_if z.spent) views k v w at refl);
        stop = h.stop ∙ sym (ap (λ (i : ℕ). one_if (nat_lt 0 i)) (total-same (λ (z : View). z.stops) views k v w at refl));
      }

  -- the seat asks all to stop
  pub stops_all : Agree b (slice_set words 0 1) (set views k (record v { stopped = true; stops = v.stops + 1 }))
  stops_all =
      let w : View = record v { stopped = true; stops = v.stops + 1 } in
      let now : List ℕ = slice_set words 0 1 in
      let places : length words ≡ 1026 = h.places in
      let here : slice_index now 0 ≡ 1 = get_or-set_same words 0 1 0 (omega arith) in
      let other : (y : ℕ) → y ≢ 0 → slice_index now y ≡ slice_index words y = λ y ne. get_or-set_other words 0 y 1 0 ne in
      let ticket : slice_index now 1 ≡ slice_index words 1 = other 1 (λ e. omega arith) in
      let claim : (x : ℕ) → word_of_claim now x ≡ word_of_claim words x = λ x. other (x + 2) (λ e. omega arith) in
      let f = h.fits k v at in
      let len : length (set views k w) ≡ length views = simp length-set in
      record {
        places = simp length-set h.places;
        bounded = h.bounded;
        first = first_after views k v w at refl refl h.first;
        fits = fits_after b words now views k v w at (omega arith) (λ one. here) (λ j x u ne there held. claim x) (λ j ne. refl) h.fits
            record {
              numbered = f.numbered;
              budgeted = f.budgeted;
              emptied = λ spent. absurd (true≢false (sym spent ∙ live));
              holds = λ x held. let g = f.holds x held in (g.0, claim x ∙ g.1);
              told = λ knows. here;
              used_up = λ some_none. let g = f.used_up some_none in omega arith;
              own_none = f.own_none;
              kept_none = λ l. total-same (λ (z : View). times k z.nones) views k v w at refl ∙ f.kept_none l;
            };
        claims = λ x lt. claim_after words now views k v w x at (λ held. held) (claim x) (h.claims x lt);
        tickets = λ y. total-same (λ (z : View). times y z.tickets) views k v w at refl ∙ h.tickets y ∙ sym (ap (λ (i : ℕ). one_if (nat_lt y (min i b))) ticket);
        nones = λ y.
            let s = total-same (λ (z : View). times y z.nones) views k v w at refl in
            let t = h.nones y in
            let p = ap (λ (i : ℕ). one_if (nat_lt y i)) len in
            omega arith;
        over = let s = total-same (λ (z : View). length z.nones) views k v w at refl in let t = h.over in omega arith;
        homes = total-same (λ (z : View). z.homes) views k v w at refl ∙ h.homes ∙ sym (total-same (λ (z : View). one_if z.spent) views k v w at refl);
        stop =
            let s = total-set (λ (z : View). z.stops) views k v w at in
            here ∙ sym (ap one_if (nat_lt-yes 0 (total (λ (z : View). z.stops) (set views k w)) (omega arith)));
      }
