-- What a step of one seat leaves as it is: the other views, the words that it doesn't write, and the count of seats.
use Rattle.std.proofs.Common.{◌≡◌, ◌≢◌, ℕ, ◌+◌, ◌≤◌, ◌⊎◌, Some, List, set, sym, ap, ◌∙◌, subst, ⊎_elim, inl, inr, length, arith}
use Rattle.std.proofs.Math.ListN.{length-set}
use mathlib.Core.Option.{some, some-injective}
use mathlib.Core.Logic.{dite}
use native.Mathlib.Decide.{ℕ_discrete}
use lib.ListN.{get_elem?}
use Rattle.atomic_table.proofs.Lists.{at_set, set_here, set_else}
use Rattle.ic_claim.specs.declared.view.View.{View}
use Rattle.ic_claim.specs.Counts.{times}
use Rattle.ic_claim.specs.Rule.{Fits, CountsSeats, HasHolder, word_of_stop, word_of_tickets, word_of_claim}
use Rattle.ic_claim.proofs.Totals.{at_length, total-set}

-- each view fits after a step of the seat k
pub fits_after : (b : ℕ) (words now : List ℕ) (views : List View) (k : ℕ) (v w : View) → get_elem? views k ≡ some v
    → word_of_tickets words ≤ word_of_tickets now
    → (word_of_stop words ≡ 1 → word_of_stop now ≡ 1)
    → ((j x : ℕ) (u : View) → j ≢ k → get_elem? views j ≡ some u → u.held ≡ Some x → word_of_claim now x ≡ word_of_claim words x)
    → ((j : ℕ) → j ≢ k → times j w.nones ≡ times j v.nones)
    → ((j : ℕ) (u : View) → get_elem? views j ≡ some u → Fits b words views j u)
    → Fits b now (set views k w) k w
    → (j : ℕ) (u : View) → get_elem? (set views k w) j ≡ some u → Fits b now (set views k w) j u
fits_after b words now views k v w at up stays same nones fits mine j u e =
    ⊎_elim
    (λ (t : (j ≡ k) × (w ≡ u)). subst (λ (y : ℕ × View). Fits b now (set views k w) y.0 y.1) (λ i. (sym t.0 i, t.1 i)) mine)
    (λ (t : (j ≢ k) × (get_elem? views j ≡ some u)).
    let f = fits j u t.1 in
    record {
      numbered = f.numbered;
      budgeted = f.budgeted;
      emptied = f.emptied;
      holds = λ x held. let g = f.holds x held in (g.0, same j x u t.0 t.1 held ∙ g.1);
      told = λ knows. stays (f.told knows);
      used_up = λ some_none. let g = f.used_up some_none in omega arith;
      own_none = f.own_none;
      kept_none = λ live.
          let s = total-set (λ (z : View). times j z.nones) views k v w at in
          let n = nones j t.0 in
          let g = f.kept_none live in
          omega arith;
    })
    (at_set views k j w u e)

-- a claim word that the step doesn't write
pub claim_after : (words now : List ℕ) (views : List View) (k : ℕ) (v w : View) (x : ℕ) → get_elem? views k ≡ some v → (v.held ≡ Some x → w.held ≡ Some x)
    → word_of_claim now x ≡ word_of_claim words x
    → (word_of_claim words x ≡ 0) ⊎ HasHolder words views x
    → (word_of_claim now x ≡ 0) ⊎ HasHolder now (set views k w) x
claim_after words now views k v w x at keeps same c =
    ⊎_elim
    (λ (free : word_of_claim words x ≡ 0). inl (same ∙ free))
    (λ (t : HasHolder words views x).
    dite (ℕ_discrete t.seat k)
    (λ (e : t.seat ≡ k).
    let is : v ≡ t.view = some-injective v t.view (sym at ∙ ap (get_elem? views) (sym e) ∙ t.there) in
    inr record {
      seat = k;
      view = w;
      there = set_here views k w (at_length views k v at);
      held = keeps (ap (λ (z : View). z.held) is ∙ t.held);
      named = same ∙ t.named ∙ ap (λ (n : ℕ). n + 1) e;
    })
    (λ (ne : t.seat ≢ k). inr record { seat = t.seat; view = t.view; there = set_else views k t.seat w ne ∙ t.there; held = t.held; named = same ∙ t.named }))
    c

-- the count of seats after a step of a seat that isn't spent by it and gives no number
pub first_after : (views : List View) (k : ℕ) (v w : View) → get_elem? views k ≡ some v → w.spent ≡ v.spent → w.given ≡ v.given
    → (z : View) × CountsSeats views z → (z : View) × CountsSeats (set views k w) z
first_after views k v w at spent given h =
    let len : length (set views k w) ≡ length views = simp length-set in
    dite (ℕ_discrete 0 k)
    (λ (e : 0 ≡ k).
    let is : v ≡ h.0 = some-injective v h.0 (sym at ∙ ap (get_elem? views) (sym e) ∙ h.1.there) in
    let same : w.given ≡ h.0.given = given ∙ ap (λ (z : View). z.given) is in
    let counted = h.1.counted in
    let most = h.1.most in (
      w,
      record {
        there = subst (λ (i : ℕ). get_elem? (set views k w) i ≡ some w) (sym e) (set_here views k w (at_length views k v at));
        unspent = spent ∙ ap (λ (z : View). z.spent) is ∙ h.1.unspent;
        counted = omega arith;
        most = omega arith;
      },
    ))
    (λ (ne : 0 ≢ k). (h.0, record { there = set_else views k 0 w ne ∙ h.1.there; unspent = h.1.unspent; counted = len ∙ h.1.counted; most = h.1.most }))
