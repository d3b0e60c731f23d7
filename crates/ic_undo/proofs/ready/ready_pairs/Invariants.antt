use Rattle.std.proofs.Common.{take}
use Rattle.std.specs.BTreeMap.{get}
use Rattle.ic_name.specs.Events.{pair_cmp}
use Rattle.ic_journal.specs.Views.{set_of}
use Rattle.ic_undo.specs.Ready.{AreReady}
use Rattle.ic_undo.proofs.ready.ready_pairs.Given as goal

-- the pairs of the first names are found
abbrev pub invariant-loop-name : goal.invariant-loop-name
invariant-loop-name g l = AreReady (set_of l.bench) (take l.name-index l.names) (get pair_cmp l.ready)
