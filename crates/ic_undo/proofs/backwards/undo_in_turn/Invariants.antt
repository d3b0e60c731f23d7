use Rattle.std.proofs.Common.{◌≡◌, ◌≤◌, List, map, reverse, drop}
use Rattle.ic_roster.specs.Rosters.{Stander}
use Rattle.ic_journal.specs.Undone.{AreUndone, AreFree}
use Rattle.ic_undo.proofs.backwards.undo_in_turn.Given as goal

abbrev pub invariant-loop-place : goal.invariant-loop-place
invariant-loop-place g l = record {
  did : (order : List Stander) → AreFree l.fn.bench order → map (λ x. x.id) order ≡ l.ids → AreUndone l.fn.bench (reverse (drop l.place order)) l.bench;
  enough : l.place ≤ l.bench.room;
}
