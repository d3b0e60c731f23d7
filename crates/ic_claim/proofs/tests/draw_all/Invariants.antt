use Rattle.std.proofs.Common.{◌≡◌, ◌++◌, None}
use Rattle.ic_claim.proofs.tests.draw_all.Given as goal

abbrev pub invariant-loop-draw : goal.invariant-loop-draw
invariant-loop-draw l =
    (l.seat.table ≡ l.claims.table)
    × (l.seat.view.held ≡ None)
    × (l.seat.view.number ≡ l.initial.seat.view.number)
    × (l.seat.view.budget ≡ l.initial.seat.view.budget)
    × (l.seat.view.given ≡ l.initial.seat.view.given)
    × (l.seat.view.homes ≡ l.initial.seat.view.homes)
    × (l.seat.view.tickets ≡ l.initial.seat.view.tickets ++ l.numbers.items)
