use Rattle.std.proofs.Common.{◌≡◌}
use Rattle.ic_work.specs.Hands.{Grips, Stays}
use Rattle.ic_work.proofs.hand.HandChooser.choose.Given as goal

abbrev pub invariant-loop-tried : goal.invariant-loop-tried
invariant-loop-tried l = ((l.self.seat.now.table ≡ l.self.claims.now.table) × Grips l.self.in_hand l.self.seat.now.view.held) × Stays l.fn.self l.self
