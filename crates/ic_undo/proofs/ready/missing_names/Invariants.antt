use Rattle.std.proofs.Common.{◌≤◌, take}
use Rattle.std.specs.BTreeSet.{btree_set_len, contains}
use Rattle.ic_name.specs.Events.{pair_cmp}
use Rattle.ic_journal.specs.Views.{set_of}
use Rattle.ic_undo.specs.Ready.{TellsMissing}
use Rattle.ic_undo.proofs.ready.missing_names.Given as goal

-- those of the first names of which no event stands are found
abbrev pub invariant-loop-name : goal.invariant-loop-name
invariant-loop-name g l = record {
  tells : TellsMissing (set_of l.bench) (take l.name-index l.names) (contains pair_cmp l.missing);
  few : btree_set_len l.missing ≤ l.name-index;
}
