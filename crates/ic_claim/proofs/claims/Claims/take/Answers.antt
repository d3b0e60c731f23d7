use Rattle.std.proofs.Common.{sym, ap, ◌∙◌, arith}
use Rattle.ic_claim.proofs.Allowed.{allows_take}
use Rattle.ic_claim.proofs.claims.Claims.take.Goals as goal

pub compare_exchange-found-requires : goal.compare_exchange-found-requires
compare_exchange-found-requires c =
    let i = c.seat.invariant in
    let words = c.self.invariant.places in
    let small = c.requires.word in (
      ap (λ p. p.table) c.seat.view_is ∙ c.requires.table ∙ sym (ap (λ p. p.table) c.self.view_is),
      omega arith,
      rw (sym i.numbered) (allows_take _ _ _ _ _ i.unspent _ (ap (λ p. p.view.held) c.seat.view_is ∙ c.requires.free) c.requires.word),
    )
