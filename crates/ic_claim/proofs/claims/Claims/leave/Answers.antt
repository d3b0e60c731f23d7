use Rattle.std.proofs.Common.{sym, ap, ◌∙◌, arith}
use Rattle.ic_claim.proofs.Allowed.{allows_leave}
use Rattle.ic_claim.proofs.claims.Claims.leave.Goals as goal

pub store-requires : goal.store-requires
store-requires c =
    let i = c.seat.invariant in
    let words = c.self.invariant.places in
    let small = i.in_range _ c.in-Some.is in
    (ap (λ p. p.table) c.seat.view_is ∙ c.requires.table ∙ sym (ap (λ p. p.table) c.self.view_is), omega arith, allows_leave _ _ _ _ _ i.unspent _ (i.holding ∙ c.in-Some.is))
