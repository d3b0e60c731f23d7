use Rattle.std.proofs.Common.{◌≡◌}
use Rattle.ic_claim.proofs.tests.draws.Given as goal

abbrev pub invariant-loop-number : goal.invariant-loop-number
invariant-loop-number l =
    (l.seat.table ≡ l.claims.table)
    × (l.seat.view.held ≡ l.initial.seat.view.held)
    × (l.seat.view.number ≡ l.initial.seat.view.number)
    × (l.seat.view.given ≡ l.initial.seat.view.given)
