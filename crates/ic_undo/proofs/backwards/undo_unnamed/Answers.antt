use Rattle.std.proofs.Common.{reverse}
use Rattle.ic_undo.proofs.StayedBenches.{unchanged, free_still, undone_still}
use Rattle.ic_undo.proofs.backwards.undo_unnamed.Goals as goal

pub returns-in-Err-HistoryFull-clause-fault : goal.returns-in-Err-HistoryFull-clause-fault
returns-in-Err-HistoryFull-clause-fault g c = rw c.in-Err-HistoryFull.field-0-is at c.in-Err-HistoryFull.ensures

pub returns-in-Err-Memory-clause-fault : goal.returns-in-Err-Memory-clause-fault
returns-in-Err-Memory-clause-fault g c = let e = rw c.in-Err-Memory.field-0-is at c.in-Err-Memory.ensures in rw e.2 (unchanged c.args.bench.now)

pub undo_each-requires : goal.undo_each-requires
undo_each-requires g c = record {
  free = (c.requires.0, free_still c.args.bench.now c.reserve.new.self c.requires.0 c.in-Ok.ensures.0 c.requires.1, c.requires.2);
  room = c.in-Ok.ensures.1;
}

pub returns-clause-undone : goal.returns-clause-undone
returns-clause-undone g c = λ order free named.
    undone_still c.args.bench.now c.reserve.new.self c.undo_each.new.bench (reverse order) c.in-Ok.ensures.0
    (c.undo_each.ensures order (free_still c.args.bench.now c.reserve.new.self order c.in-Ok.ensures.0 free) named)
