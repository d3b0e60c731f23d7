use Rattle.std.proofs.Common.{arith}
use Rattle.ic_undo.proofs.AllUndone.{all_there}
use Rattle.ic_undo.proofs.backwards.undo_each.Goals as goal

pub clear-requires-clause-all : goal.clear-requires-clause-all
clear-requires-clause-all g c =
    let same = c.if-ids-standing_count.true in
    let count = c.standing_count.ensures in
    all_there c.args.bench.now c.args.ids.now c.requires.free (omega (arith, same, count))
