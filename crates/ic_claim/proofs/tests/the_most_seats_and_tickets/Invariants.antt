use Rattle.std.proofs.Common.{◌≡◌, ◌+◌}
use Rattle.ic_claim.proofs.tests.the_most_seats_and_tickets.Given as goal

abbrev pub invariant-loop-number : goal.invariant-loop-number
invariant-loop-number g l = (l.first.table ≡ l.claims.table) × (l.first.view.number ≡ 0) × (l.first.view.given + 1 ≡ l.number-counter)
