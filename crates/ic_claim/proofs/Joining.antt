-- A join keeps the rule.
use Rattle.std.proofs.Common.{◌≡◌, ◌≢◌, ℕ, ◌+◌, Bool, true, false, true≢false, Some, None, List, [], ◌∷◌, ◌++◌, length, set, sym, refl, ap, ◌∙◌, subst, ⊎_elim, inl, inr, arith, length-append}
use Rattle.std.specs.Prelude.{nat_lt, ◌||◌}
use Rattle.std.proofs.Math.ListN.{length-set}
use mathlib.Core.Option.{some, some-injective}
use lib.ListN.{get_elem?}
use Rattle.atomic_table.proofs.Lists.{at_set, set_else}
use Rattle.ic_claim.specs.declared.view.View.{View}
use Rattle.ic_claim.specs.Counts.{one_if, times, total}
use Rattle.ic_claim.specs.Views.{spent_view, joined}
use Rattle.ic_claim.specs.Rule.{Fits, CountsSeats, HasHolder, Agree, word_of_claim}
use Rattle.ic_claim.proofs.Totals.{times-append, total-set, two_parts}
use Rattle.ic_claim.proofs.Others.{claim_after, first_after}

append_cases : (xs ys : List ℕ) → {P : Type 0} → xs ++ ys ≢ [] → (xs ≢ [] → P) → (ys ≢ [] → P) → P
append_cases [] ys n p q = q n
append_cases (x ∷ xs) ys n p q = p (λ e. absurd (cc e))

or_cases : (a c : Bool) → {P : Type 0} → (a || c) ≡ true → (a ≡ true → P) → (c ≡ true → P) → P
or_cases true c e p q = p refl
or_cases false c e p q = q e

-- the seat with number 0 when another is spent
first_else : (views : List View) (j : ℕ) → j ≢ 0 → (z : View) × CountsSeats views z → (z : View) × CountsSeats (set views j spent_view) z
first_else views j ne t = (
  t.0,
  record { there = set_else views j 0 spent_view (λ e. ne (sym e)) ∙ t.1.there; unspent = t.1.unspent; counted = length-set views j spent_view ∙ t.1.counted; most = t.1.most },
)

pub joins_seat : (b : ℕ) (words : List ℕ) (views : List View) (k : ℕ) (v : View) (j : ℕ) (u : View) → Agree b words views → get_elem? views k ≡ some v → v.spent ≡ false
    → j ≢ k → get_elem? views j ≡ some u → u.spent ≡ false → u.held ≡ None → u.number ≢ 0
    → Agree b words (set (set views k (joined v u)) j spent_view)
joins_seat b words views k v j u h at live apart there u_live u_free u_later =
    let w : View = joined v u in
    let mid : List View = set views k w in
    let there' : get_elem? mid j ≡ some u = set_else views k j w apart ∙ there in
    let all : List View = set mid j spent_view in
    let f = h.fits k v at in
    let g = h.fits j u there in
    let u_own : u.number ≡ j = g.numbered u_live in
    let len : length all ≡ length views = simp length-set in
    let total-all : (q : View → ℕ) → q w ≡ q v + q u → q spent_view ≡ 0 → total q all ≡ total q views = λ q e z. let s = total-set q views k v w at in let t = total-set q mid j u spent_view there' in omega arith in
    let nones_all : (x : ℕ) → total (λ (z : View). times x z.nones) all ≡ total (λ (z : View). times x z.nones) views = λ x. total-all (λ (z : View). times x z.nones) (times-append x v.nones u.nones) refl in
    let else_fits : (i : ℕ) (z : View) → get_elem? views i ≡ some z → Fits b words all i z = λ i z e.
    let q = h.fits i z e in
    record {
      numbered = q.numbered;
      budgeted = q.budgeted;
      emptied = q.emptied;
      holds = q.holds;
      told = q.told;
      used_up = q.used_up;
      own_none = q.own_none;
      kept_none = λ l. nones_all i ∙ q.kept_none l;
    } in
    let own_fits : Fits b words all k w = record {
      numbered = f.numbered;
      budgeted = f.budgeted;
      emptied = λ spent. absurd (true≢false (sym spent ∙ live));
      holds = f.holds;
      told = λ knows. or_cases v.stopped u.stopped knows f.told g.told;
      used_up = λ some_none. append_cases v.nones u.nones some_none f.used_up g.used_up;
      own_none = λ l.
          let a = f.kept_none live in
          let d = f.own_none live in
          let p = two_parts (λ (z : View). times k z.nones) views k j v u apart at there in
          let t = times-append k v.nones u.nones in
          omega arith;
      kept_none = λ l.
          let a = f.kept_none live in
          let p = two_parts (λ (z : View). times k z.nones) views k j v u apart at there in
          let t = times-append k v.nones u.nones in
          let n = nones_all k in
          omega arith;
    } in
    let spent_fits : Fits b words all j spent_view = record {
      numbered = λ l. absurd (true≢false l);
      budgeted = λ l. absurd (true≢false l);
      emptied = λ spent. refl;
      holds = λ y held. absurd (cc held);
      told = λ knows. absurd (true≢false (sym knows));
      used_up = λ some_none. absurd (some_none refl);
      own_none = λ l. absurd (true≢false l);
      kept_none = λ l. absurd (true≢false l);
    } in
    record {
      places = h.places;
      bounded = h.bounded;
      first = first_else mid j (λ e. u_later (u_own ∙ e)) (first_after views k v w at refl refl h.first);
      fits = λ i z e. ⊎_elim
          (λ (t : (i ≡ j) × (spent_view ≡ z)). subst (λ (y : ℕ × View). Fits b words all y.0 y.1) (λ r. (sym t.0 r, t.1 r)) spent_fits)
          (λ (t : (i ≢ j) × (get_elem? mid i ≡ some z)).
          ⊎_elim
          (λ (s : (i ≡ k) × (w ≡ z)). subst (λ (y : ℕ × View). Fits b words all y.0 y.1) (λ r. (sym s.0 r, s.1 r)) own_fits)
          (λ (s : (i ≢ k) × (get_elem? views i ≡ some z)). else_fits i z s.1)
          (at_set views k i w z t.1))
          (at_set mid j i spent_view z e);
      claims = λ y lt. ⊎_elim (λ (z : word_of_claim words y ≡ 0). inl z)
          (λ (t : HasHolder words mid y).
          let ne : t.seat ≢ j = λ e.
          let is : u ≡ t.view = some-injective u t.view (sym there' ∙ ap (get_elem? mid) (sym e) ∙ t.there) in
          let held : u.held ≡ Some y = ap (λ (z : View). z.held) is ∙ t.held in
          absurd (cc (u_free, held)) in
          inr record { seat = t.seat; view = t.view; there = set_else mid j t.seat spent_view ne ∙ t.there; held = t.held; named = t.named })
          (claim_after words words views k v w y at (λ held. held) refl (h.claims y lt));
      tickets = λ y. total-all (λ (z : View). times y z.tickets) (times-append y v.tickets u.tickets) refl ∙ h.tickets y;
      nones = λ y.
          let s = nones_all y in
          let t = h.nones y in
          let p = ap (λ (i : ℕ). one_if (nat_lt y i)) len in
          omega arith;
      over = let s = total-all (λ (z : View). length z.nones) (simp length-append) refl in let t = h.over in omega arith;
      homes =
          let s = total-set (λ (z : View). z.homes) views k v w at in
          let t = total-set (λ (z : View). z.homes) mid j u spent_view there' in
          let p = total-set (λ (z : View). one_if z.spent) views k v w at in
          let q = total-set (λ (z : View). one_if z.spent) mid j u spent_view there' in
          let g = h.homes in
          let none = ap one_if u_live in
          omega arith;
      stop = h.stop ∙ sym (ap (λ (i : ℕ). one_if (nat_lt 0 i)) (total-all (λ (z : View). z.stops) refl refl));
    }
