use Rattle.std.proofs.Common.{◌≡◌, length}
use Rattle.ic_trace.specs.Cursors.{list_in}
use Rattle.ic_trace.proofs.cursor.Cursor.into_steps.Given as goal

-- the list is the same
abbrev pub invariant-loop-step : goal.invariant-loop-step
invariant-loop-step l = list_in l.self ≡ list_in l.fn.self

abbrev pub decreases-loop-step : goal.decreases-loop-step
decreases-loop-step l = length l.self.behind.items
