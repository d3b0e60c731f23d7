use Rattle.std.proofs.Common.{take}
use Rattle.std.specs.BTreeMap.{get}
use Rattle.std.specs.BTreeSet.{contains}
use Rattle.ic_name.specs.Events.{pair_cmp}
use Rattle.ic_journal.specs.Views.{set_of}
use Rattle.ic_undo.specs.Ready.{AddsPairs}
use Rattle.ic_undo.proofs.ready.add_pairs.Given as goal

-- those of the first pairs whose names wait are there
abbrev pub invariant-loop-place : goal.invariant-loop-place
invariant-loop-place g l = AddsPairs (set_of l.bench) (contains pair_cmp l.waiting) (take l.place-index l.pairs) (get pair_cmp l.fn.ready) (get pair_cmp l.ready)
