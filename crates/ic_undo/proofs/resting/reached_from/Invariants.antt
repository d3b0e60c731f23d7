use Rattle.std.proofs.Common.{◌-◌, length}
use Rattle.std.specs.BTreeSet.{contains}
use Rattle.std.specs.Ordering.{nat_cmp}
use Rattle.ic_undo.specs.Resting.{HaveLines}
use Rattle.ic_undo.proofs.RestingReached.{AreReached}
use Rattle.ic_undo.proofs.resting.reached_from.Given as goal

-- the events that were reached rest on this one, and the direct dependents of those before the next one are among them
abbrev pub invariant-loop-next : goal.invariant-loop-next
invariant-loop-next g l = record {
  lines : HaveLines l.ids.items (contains nat_cmp l.lines);
  reached : AreReached l.bench l.fn.id.line l.ids.items l.next;
}

-- no more are reached than stand
abbrev pub decreases-loop-next : goal.decreases-loop-next
decreases-loop-next g l = length l.bench.events - l.next
