use Rattle.std.proofs.Common.{sym, ap, ◌∙◌, arith}
use Rattle.ic_claim.proofs.Allowed.{allows_look}
use Rattle.ic_claim.proofs.claims.Claims.is_stopped.Goals as goal

pub load-requires : goal.load-requires
load-requires c =
    let words = c.self.invariant.places in
    (ap (λ p. p.table) c.seat.view_is ∙ c.requires ∙ sym (ap (λ p. p.table) c.self.view_is), omega arith, allows_look _ _ _ _ _ c.seat.invariant.unspent)
