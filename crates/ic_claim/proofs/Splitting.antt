-- A split keeps the rule.
use Rattle.std.proofs.Common.{◌≡◌, ℕ, zero, suc, ◌+◌, ◌<◌, ◌≤◌, false, true≢false, List, [], ◌∷◌, ◌++◌, length, set, sym, refl, ap, ◌∙◌, subst, ⊎_elim, inl, inr, arith, length-append}
use Rattle.std.proofs.lemmas.Bool.Decides.{nat_tests}
use Rattle.std.specs.Prelude.{nat_lt}
use Rattle.std.proofs.Math.ListN.{length-set}
use mathlib.Core.Option.{some, some-injective, some-ne-none}
use lib.ListN.{get_elem?}
use Rattle.atomic_table.proofs.Lists.{set_here, at_longer}
use Rattle.ic_claim.specs.declared.view.View.{View}
use Rattle.ic_claim.specs.Counts.{one_if, times, total}
use Rattle.ic_claim.specs.Views.{given_one, next_seat}
use Rattle.ic_claim.specs.Rule.{Fits, HasHolder, Agree, word_of_claim}
use Rattle.ic_claim.proofs.Totals.{at_length, total-snoc, total-same}
use Rattle.ic_claim.proofs.Others.{fits_after, claim_after}
use Rattle.ic_claim.proofs.Drawing.{nat_lt-not}

-- the view at a place of a list with one view more
snoc_cases : (l : List View) (a : View) (j : ℕ) (u : View) → get_elem? (l ++ a ∷ []) j ≡ some u → {P : Type 0} → (get_elem? l j ≡ some u → P) → (j ≡ length l → a ≡ u → P) → P
snoc_cases [] a zero u e old new = new refl (some-injective a u e)
snoc_cases [] a (suc j) u e old new = absurd (some-ne-none u (sym e))
snoc_cases (x ∷ xs) a zero u e old new = old e
snoc_cases (x ∷ xs) a (suc j) u e {P} old new = snoc_cases xs a j u e {P = P} old (λ d s. new (ap suc d) s)

one_if-more : (x n : ℕ) → one_if (nat_lt x n) ≤ one_if (nat_lt x (n + 1))
one_if-more x n = grind (arith, nat_tests)

-- there is no None under the next number
none_next : (b : ℕ) (words : List ℕ) (views : List View) → Agree b words views → total (λ v. times (length views) v.nones) views ≡ 0
none_next b words views h =
    let t = h.nones (length views) in
    let z : one_if (nat_lt (length views) (length views)) ≡ 0 = ap one_if (nat_lt-not (length views) (length views) (omega arith)) in
    omega arith

pub splits_seat : (b : ℕ) (words : List ℕ) (views : List View) (k : ℕ) (v : View) → Agree b words views → get_elem? views k ≡ some v → v.spent ≡ false → v.number ≡ 0 → v.given + 1 < 64
    → Agree b words (set views k (given_one v) ++ next_seat v ∷ [])
splits_seat b words views k v h at live zeroth room =
    let w : View = given_one v in
    let new : View = next_seat v in
    let mid : List View = set views k w in
    let all : List View = mid ++ new ∷ [] in
    let f = h.fits k v at in
    let own : v.number ≡ k = f.numbered live in
    let k_is : k ≡ 0 = omega arith in
    let is : v ≡ h.first.0 = some-injective v h.first.0 (sym at ∙ ap (get_elem? views) k_is ∙ h.first.1.there) in
    let given : v.given ≡ h.first.0.given = ap (λ (z : View). z.given) is in
    let counted = h.first.1.counted in
    let len : length mid ≡ length views = simp length-set in
    let len' : length all ≡ length views + 1 = simp (length-append, length-set) in
    let total-all : (g : View → ℕ) → g w ≡ g v → total g all ≡ total g views + g new = λ g e. let s = total-same g views k v w at e in let t = total-snoc g mid new in omega arith in
    let mids : (j : ℕ) (u : View) → get_elem? mid j ≡ some u → Fits b words mid j u = fits_after b words words views k v w at (omega arith) (λ one. one) (λ j y u ne there held. refl) (λ j ne. refl) h.fits
    record {
      numbered = f.numbered;
      budgeted = f.budgeted;
      emptied = λ spent. absurd (true≢false (sym spent ∙ live));
      holds = f.holds;
      told = f.told;
      used_up = f.used_up;
      own_none = f.own_none;
      kept_none = λ l. total-same (λ (z : View). times k z.nones) views k v w at refl ∙ f.kept_none l;
    } in
    record {
      places = h.places;
      bounded = h.bounded;
      first = (
        w,
        record {
          there = subst (λ (i : ℕ). get_elem? all i ≡ some w) k_is (at_longer mid (new ∷ []) k w (set_here views k w (at_length views k v at)));
          unspent = live;
          counted = omega arith;
          most = room;
        },
      );
      fits = λ j u there. snoc_cases mid new j u there
          (λ (at' : get_elem? mid j ≡ some u). let g = mids j u at' in record {
            numbered = g.numbered;
            budgeted = g.budgeted;
            emptied = g.emptied;
            holds = g.holds;
            told = g.told;
            used_up = g.used_up;
            own_none = g.own_none;
            kept_none = λ l. let t = total-snoc (λ (z : View). times j z.nones) mid new in let e = g.kept_none l in omega arith;
          })
          (λ (e : j ≡ length mid) (same : new ≡ u). subst (λ (y : ℕ × View). Fits b words all y.0 y.1) (λ i. (sym e i, same i)) record {
            numbered = λ l. omega arith;
            budgeted = λ l. f.budgeted live;
            emptied = λ spent. absurd (true≢false (sym spent));
            holds = λ y held. absurd (cc held);
            told = f.told;
            used_up = λ some_none. absurd (some_none refl);
            own_none = λ l. refl;
            kept_none = λ l.
                let p = none_next b words views h in
                let t = total-all (λ (z : View). times (length views) z.nones) refl in
                subst (λ (i : ℕ). total (λ (z : View). times i z.nones) all ≡ 0) (sym len) (omega arith);
          });
      claims = λ y lt. ⊎_elim (λ (z : word_of_claim words y ≡ 0). inl z)
          (λ (t : HasHolder words mid y). inr record { seat = t.seat; view = t.view; there = at_longer mid (new ∷ []) t.seat t.view t.there; held = t.held; named = t.named })
          (claim_after words words views k v w y at (λ held. held) refl (h.claims y lt));
      tickets = λ y. let s = total-all (λ (z : View). times y z.tickets) refl in let t = h.tickets y in omega arith;
      nones = λ y.
          let s = total-all (λ (z : View). times y z.nones) refl in
          let t = h.nones y in
          let m = one_if-more y (length views) in
          let p = ap (λ (i : ℕ). one_if (nat_lt y i)) len' in
          omega arith;
      over = let s = total-all (λ (z : View). length z.nones) refl in let t = h.over in omega arith;
      homes = let s = total-all (λ (z : View). z.homes) refl in let t = total-all (λ (z : View). one_if z.spent) refl in let g = h.homes in omega arith;
      stop =
          let s : total (λ (z : View). z.stops) all ≡ total (λ (z : View). z.stops) views = let t = total-all (λ (z : View). z.stops) refl in omega arith in
          h.stop ∙ sym (ap (λ (i : ℕ). one_if (nat_lt 0 i)) s);
    }
