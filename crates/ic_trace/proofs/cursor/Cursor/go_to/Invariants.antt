use Rattle.std.proofs.Common.{◌≡◌, ◌≤◌, length}
use Rattle.ic_trace.specs.Cursors.{list_in}
use Rattle.ic_trace.proofs.cursor.Cursor.go_to.Given as goal

-- the list is the same
abbrev pub invariant-back : goal.invariant-back
invariant-back l = list_in l.self ≡ list_in l.fn.self

abbrev pub decreases-back : goal.decreases-back
decreases-back l = length l.self.before.items

-- the list is the same, and the place not beyond that to go to
abbrev pub invariant-forth : goal.invariant-forth
invariant-forth l = record { same : list_in l.self ≡ list_in l.fn.self; within : length l.self.before.items ≤ l.place }

abbrev pub decreases-forth : goal.decreases-forth
decreases-forth l = length l.self.behind.items
