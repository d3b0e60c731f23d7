use Rattle.std.proofs.Common.{sym, ap, ◌∙◌, arith}
use Rattle.ic_claim.proofs.Totals.{one_if-bound}
use Rattle.ic_claim.proofs.Allowed.{allows_draw}
use Rattle.ic_claim.proofs.SeatFacts.{drawn_past, none_noted}
use Rattle.ic_claim.proofs.claims.Claims.draw.Goals as goal

pub fetch_add-number-requires : goal.fetch_add-number-requires
fetch_add-number-requires c =
    let i = c.seat.invariant in
    let words = c.self.invariant.places in
    (ap (λ p. p.table) c.seat.view_is ∙ c.requires ∙ sym (ap (λ p. p.table) c.self.view_is), omega arith, allows_draw _ _ _ _ _ i.unspent (i.ended ∙ c.if-seat.false))

pub invariant_of-seat-else-number-seat : goal.invariant_of-seat-else-number-seat
invariant_of-seat-else-number-seat c =
    let i = c.seat.invariant in
    let t = c.fetch_add-number.ensures.2 in
    let w = c.fetch_add-number.new.seat.me.0 in
    let e = drawn_past c.seat.inside.inner.me.0 w c.fetch_add-number.result (rw i.budgeted c.if-number-seat.false) t.0 in
    let bound = one_if-bound w.done in
    let noted = none_noted c.seat.inside.inner.me.0 w e in
    record {
      no_slots = t.1 ∙ i.no_slots;
      unspent = ap (λ v. v.spent) e ∙ i.unspent;
      numbered = ap (λ v. v.number) e ∙ i.numbered;
      budgeted = ap (λ v. v.budget) e ∙ i.budgeted;
      holding = ap (λ v. v.held) e ∙ i.holding;
      ended = ap (λ v. v.done) e;
      counted = ap (λ v. v.given) e ∙ i.counted;
      below = i.below;
      noted = omega arith;
      in_range = i.in_range;
    }

pub returns-else-number-seat-clause-noted : goal.returns-else-number-seat-clause-noted
returns-else-number-seat-clause-noted c =
    let e = drawn_past c.seat.inside.inner.me.0 c.fetch_add-number.new.seat.me.0 c.fetch_add-number.result (rw c.seat.invariant.budgeted c.if-number-seat.false) c.fetch_add-number.ensures.2.0 in
    let noted = none_noted c.seat.inside.inner.me.0 c.fetch_add-number.new.seat.me.0 e in
    omega arith
