use Rattle.std.proofs.Common.{take}
use Rattle.std.specs.BTreeSet.{contains}
use Rattle.std.specs.Ordering.{nat_cmp}
use Rattle.ic_undo.specs.Resting.{HaveLines, PutsBehind}
use Rattle.ic_undo.proofs.resting.add_new.Given as goal

-- those of the first others whose lines are new are put behind the ids
abbrev pub invariant-loop-other : goal.invariant-loop-other
invariant-loop-other l = record {
  lines : HaveLines l.ids.items (contains nat_cmp l.lines);
  put : PutsBehind l.fn.ids.items (take l.other-index l.others) l.ids.items;
}
