use Rattle.std.proofs.Common.{[], sym, ap, ◌∙◌, arith}
use Rattle.ic_claim.proofs.Allowed.{may_split}
use Rattle.ic_claim.proofs.claims.Claims.split.Goals as goal

pub split_seat-inner-requires : goal.split_seat-inner-requires
split_seat-inner-requires c =
    let seen = c.seat.view_is in
    let words = c.self.invariant.places in (
      ap (λ p. p.table) seen ∙ c.requires.table ∙ sym (ap (λ p. p.table) c.self.view_is),
      omega arith,
      may_split _ 0 _ _ [] c.seat.invariant.unspent (ap (λ p. p.view.number) seen ∙ c.requires.first) (rw (ap (λ p. p.view.given) seen) c.requires.room),
    )
