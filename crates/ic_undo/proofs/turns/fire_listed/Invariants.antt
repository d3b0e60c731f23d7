use Rattle.std.proofs.Common.{◌+◌, ◌≤◌, length, vec_capacity}
use Rattle.std.specs.BTreeMap.{get}
use Rattle.std.specs.BTreeSet.{btree_set_len, contains}
use Rattle.ic_name.specs.Events.{pair_cmp}
use Rattle.ic_journal.specs.Benches.{IsBench}
use Rattle.ic_journal.specs.Views.{set_of}
use Rattle.ic_undo.specs.Coming.{Comes}
use Rattle.ic_undo.specs.Ready.{TellsMissing, AreReady}
use Rattle.ic_undo.proofs.turns.fire_listed.Given as goal

-- listed events came, and what is missing and ready then is known
abbrev pub invariant-loop-pair : goal.invariant-loop-pair
invariant-loop-pair g l = record {
  lawful : IsBench l.bench;
  comes : Comes l.fn.bench l.names l.ids.items l.bench;
  tells : TellsMissing (set_of l.bench) l.names (contains pair_cmp l.missing);
  ready : AreReady (set_of l.bench) l.names (get pair_cmp l.ready);
  count : length l.ids.items + btree_set_len l.missing ≤ length l.names;
  places : length l.ids.items + btree_set_len l.missing ≤ vec_capacity l.ids;
}

-- fewer are missing
abbrev pub decreases-loop-pair : goal.decreases-loop-pair
decreases-loop-pair g l = btree_set_len l.missing
