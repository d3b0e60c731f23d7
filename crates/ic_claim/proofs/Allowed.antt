-- What each call owes its table: that its step keeps the rule, whatever other seats have done.
use Rattle.std.proofs.Common.{◌≡◌, ◌≢◌, ℕ, zero, suc, ◌+◌, ◌-◌, ◌^◌, ◌%◌, ◌<◌, ◌≤◌, Bool, true, false, Some, None, List, [], ◌∷◌, length, set, sym, refl, ap, ◌∙◌, subst, arith, ne_eqb}
use Rattle.std.specs.Prelude.{◌==◌, nat_lt, slice_index, slice_set, min, bit_or, if◌then◌else◌}
use Rattle.std.proofs.lemmas.Bool.Decides.{nat_tests}
use mathlib.Core.Option.{some}
use mathlib.Core.Logic.{dite}
use native.Mathlib.Decide.{dec_lt}
use prog.Atomic.{either}
use lib.ListN.{get_elem?}
use Rattle.atomic_table.specs.Table.{Allows, Splits, Joins, Act, keeps, Valid, stepped, carried_after}
use Rattle.atomic_table.proofs.Lists.{set_else, exchanged}
use Rattle.ic_claim.specs.declared.view.View.{View}
use Rattle.ic_claim.specs.Counts.{one_if, times, total}
use Rattle.ic_claim.specs.Views.{spent_view, with_ticket, with_none, given_one, next_seat, joined}
use Rattle.ic_claim.specs.Rule.{Agree, Holds}
use Rattle.ic_claim.specs.Plays.{drawn, taken, AreTickets}
use Rattle.ic_claim.proofs.Totals.{total_part, one_if-bound}
use Rattle.ic_claim.proofs.Numbers.{few_numbers}
use Rattle.ic_claim.proofs.Drawing.{nat_lt-not, nat_lt-yes, few_nones, draws_ticket, draws_none}
use Rattle.ic_claim.proofs.Claiming.{takes_free, leaves_word}
use Rattle.ic_claim.proofs.Stopping.{stop_set, notes, stops_all}
use Rattle.ic_claim.proofs.Splitting.{splits_seat}
use Rattle.ic_claim.proofs.Joining.{joins_seat}
use Rattle.ic_claim.proofs.Homes.{all_tickets}

-- a word written as it was
set-same : (l : List ℕ) (i : ℕ) → slice_set l i (slice_index l i) ≡ l
set-same [] i = refl
set-same (x ∷ xs) zero = refl
set-same (x ∷ xs) (suc i) = ap (λ (ys : List ℕ). x ∷ ys) (set-same xs i)

one_if-fewer : (x n b : ℕ) → one_if (nat_lt x (min n b)) ≤ one_if (nat_lt x b)
one_if-fewer x n b = grind (arith, nat_tests)

is_one : (n : ℕ) → (n == 1) ≡ true → n ≡ 1
is_one n e = grind (arith, nat_tests)

-- the tickets of one view
tickets_of : (b : ℕ) (words : List ℕ) (views : List View) (k : ℕ) (v : View) → Agree b words views → get_elem? views k ≡ some v → v.spent ≡ false → AreTickets v
tickets_of b words views k v h at live =
    let own : (x : ℕ) → times x v.tickets ≤ one_if (nat_lt x b) = λ x.
    let p = total_part (λ (z : View). times x z.tickets) views k v at in
    let t = h.tickets x in
    let m = one_if-fewer x (slice_index words 1) b in
    omega arith in
    record {
      once = λ x. let o = own x in let m = one_if-bound (nat_lt x b) in omega arith;
      few = subst (λ (n : ℕ). length v.tickets ≤ n) (sym ((h.fits k v at).budgeted live)) (few_numbers b v.tickets own);
      all = λ whole x.
          let budget : v.budget ≡ b = (h.fits k v at).budgeted live in
          let first : k ≡ 0 = sym ((h.fits k v at).numbered live) ∙ whole.first in
          all_tickets b words views v h (subst (λ (i : ℕ). get_elem? views i ≡ some v) first at) live whole x ∙ ap (λ (n : ℕ). one_if (nat_lt x n)) (sym budget);
    }

module _ (b slots id : ℕ) (v : View) (hand : List (ℕ × ℕ)) (live : v.spent ≡ false) where
  -- a step on the word i writes f of what it found, and the seat then has the view that w gives of it
  abbrev Step : ℕ → (ℕ → ℕ) → (ℕ → View) → Type 0
  Step i f w = Allows (Holds b) slots id (v, hand) i f (λ n m. (m.0 ≡ w n) × (m.1 ≡ hand))

  pub allows_draw : v.done ≡ false → Step 1 (λ n. (n + 1) % 2 ^ 64) (drawn v)
  allows_draw none_yet t h count at small =
      let budget : v.budget ≡ b = (h.fits id v at).budgeted live in
      let n : ℕ = slice_index t.words 1 in
      let few = few_nones b t.words t.views h in
      let over = h.over in
      let bounded = h.bounded in
      let next : (n + 1) % 2 ^ 64 ≡ n + 1 = omega arith in
      dite (dec_lt n v.budget)
      (λ (lt : n < v.budget).
      let is : drawn v n ≡ with_ticket v n = ap (λ (c : Bool). if c then with_ticket v n else with_none v) (nat_lt-yes n v.budget lt) in
      (with_ticket v n, keeps, tt, subst (λ (z : ℕ). Agree b (slice_set t.words 1 z) (set t.views id (with_ticket v n))) (sym next) (draws_ticket b t.words t.views id v h at live (omega arith)), (sym is, refl)))
      (λ ge.
      let past : v.budget ≤ n = omega arith in
      let is : drawn v n ≡ with_none v = ap (λ (c : Bool). if c then with_ticket v n else with_none v) (nat_lt-not n v.budget past) in
      (with_none v, keeps, tt, subst (λ (z : ℕ). Agree b (slice_set t.words 1 z) (set t.views id (with_none v))) (sym next) (draws_none b t.words t.views id v h at live (omega arith) none_yet), (sym is, refl)))

  pub allows_take : (x : ℕ) → v.held ≡ None → x < 1024 → Step (x + 2) (λ n. either (n == 0) (v.number + 1) n) (λ n. taken v (x + 2 - 2) n)
  allows_take x free small t h count at fits =
      let own : v.number ≡ id = (h.fits id v at).numbered live in
      let found : ℕ = slice_index t.words (x + 2) in
      let back : x + 2 - 2 ≡ x = omega arith in
      let busy : View = record v { refusals = v.refusals + 1 } in
      exchanged found 0 (v.number + 1) (λ (m : ℕ). (w : View) × (a : Act ℕ) × Valid t.homes hand a × Holds b (stepped t (x + 2) m id hand w a) × ((w ≡ taken v (x + 2 - 2) found) × (carried_after hand a ≡ hand)))
      (λ (zero_there : found ≡ 0).
      let is : taken v (x + 2 - 2) found ≡ record v { held = Some x } = ap (taken v (x + 2 - 2)) zero_there ∙ ap (λ (y : ℕ). record v { held = Some y }) back in
      let next : v.number + 1 ≡ id + 1 = omega arith in
      (record v { held = Some x }, keeps, tt, subst (λ (z : ℕ). Agree b (slice_set t.words (x + 2) z) (set t.views id (record v { held = Some x }))) (sym next) (takes_free b t.words t.views id v x h at live free small zero_there), (sym is, refl)))
      (λ (held : found ≢ 0).
      let is : taken v (x + 2 - 2) found ≡ busy = ap (λ (c : Bool). if c then record v { held = Some (x + 2 - 2) } else busy) (ne_eqb found 0 held) in
      (busy, keeps, tt, subst (λ (l : List ℕ). Agree b l (set t.views id busy)) (sym (set-same t.words (x + 2))) (notes b t.words t.views id v h at live (v.refusals + 1) v.stopped (h.fits id v at).told), (sym is, refl)))

  pub allows_leave : (x : ℕ) → v.held ≡ Some x → Step (x + 2) (λ _. 0) (λ _. record v { held = None })
  allows_leave x held t h count at fits = (record v { held = None }, keeps, tt, leaves_word b t.words t.views id v x h at live held, (refl, refl))

  pub allows_stop : Step 0 (λ n. bit_or n 1) (λ _. record v { stopped = true; stops = v.stops + 1 })
  allows_stop t h count at fits =
      let w : View = record v { stopped = true; stops = v.stops + 1 } in
      let one : bit_or (slice_index t.words 0) 1 ≡ 1 = ap (λ (n : ℕ). bit_or n 1) h.stop ∙ stop_set (nat_lt 0 (total (λ (z : View). z.stops) t.views)) in
      (w, keeps, tt, subst (λ (n : ℕ). Agree b (slice_set t.words 0 n) (set t.views id w)) (sym one) (stops_all b t.words t.views id v h at live), (refl, refl))

  pub allows_look : Allows (Holds b) slots id (v, hand) 0 (λ n. n) (λ n m. ((m.0 ≡ record v { stopped = n == 1 }) × (m.1 ≡ hand)) × (v.stopped ≡ true → n ≡ 1) × AreTickets v)
  allows_look t h count at fits =
      let found : ℕ = slice_index t.words 0 in
      let w : View = record v { stopped = found == 1 } in (
        w,
        keeps,
        tt,
        subst (λ (l : List ℕ). Agree b l (set t.views id w)) (sym (set-same t.words 0)) (notes b t.words t.views id v h at live v.refusals (found == 1) (is_one found)),
        ((refl, refl), (h.fits id v at).told, tickets_of b t.words t.views id v h at live),
      )

  pub may_split : v.number ≡ 0 → v.given + 1 < 64 → Splits (Holds b) id v (given_one v) (next_seat v)
  may_split zeroth room t h at = splits_seat b t.words t.views id v h at live zeroth room

  pub may_join : (other : ℕ) (u : View) → u.spent ≡ false → u.held ≡ None → u.number ≢ 0 → Joins (Holds b) id v other u (joined v u) spent_view
  may_join other u u_live u_free u_later t h at apart there =
      joins_seat b t.words t.views id v other u h at live apart (sym (set_else t.views id other (joined v u) apart) ∙ there) u_live u_free u_later
