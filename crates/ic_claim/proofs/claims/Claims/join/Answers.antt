use Rattle.std.proofs.Common.{[], sym, ap, ◌∙◌, arith}
use Rattle.ic_claim.proofs.Allowed.{may_join}
use Rattle.ic_claim.proofs.SeatFacts.{joined_noted}
use Rattle.ic_claim.proofs.claims.Claims.join.Goals as goal

pub join_seat-requires : goal.join_seat-requires
join_seat-requires c =
    let mine = sym (ap (λ p. p.table) c.self.view_is) in
    let words = c.self.invariant.places in
    let other = c.other.invariant in (
      ap (λ p. p.table) c.seat.view_is ∙ c.requires.tables.0 ∙ mine,
      ap (λ p. p.table) c.other.view_is ∙ c.requires.tables.1 ∙ mine,
      other.no_slots,
      omega arith,
      may_join _ 0 _ _ [] c.seat.invariant.unspent _ _ other.unspent (ap (λ p. p.view.held) c.other.view_is ∙ c.requires.free) (λ e. c.requires.later (sym (ap (λ p. p.view.number) c.other.view_is) ∙ e)),
    )

pub invariant_of-seat : goal.invariant_of-seat
invariant_of-seat c =
    let i = c.seat.invariant in
    let e = ap (λ m. m.0) c.join_seat.ensures.2 in
    record {
      no_slots = ap (λ m. m.1) c.join_seat.ensures.2 ∙ i.no_slots;
      unspent = ap (λ v. v.spent) e ∙ i.unspent;
      numbered = ap (λ v. v.number) e ∙ i.numbered;
      budgeted = ap (λ v. v.budget) e ∙ i.budgeted;
      holding = ap (λ v. v.held) e ∙ i.holding;
      ended = ap (λ v. v.done) e ∙ i.ended;
      counted = ap (λ v. v.given) e ∙ i.counted;
      below = i.below;
      noted = joined_noted c.seat.inside.inner.me.0 c.join_seat.new.seat.me.0 c.other.inside.inner.me.0 e i.noted;
      in_range = i.in_range;
    }
