use Rattle.std.proofs.Common.{sym, ap, ◌∙◌, arith}
use Rattle.ic_claim.proofs.Allowed.{allows_stop}
use Rattle.ic_claim.proofs.claims.Claims.stop.Goals as goal

pub fetch_or-requires : goal.fetch_or-requires
fetch_or-requires c =
    let words = c.self.invariant.places in
    (ap (λ p. p.table) c.seat.view_is ∙ c.requires ∙ sym (ap (λ p. p.table) c.self.view_is), omega arith, allows_stop _ _ _ _ _ c.seat.invariant.unspent)
