use Rattle.std.proofs.Common.{◌≡◌, ℕ, ◌+◌, ◌≤◌, List, map, take, drop, length}
use Rattle.ic_roster.specs.Rosters.{Stander}
use Rattle.ic_answer.specs.LastFired.{AreFiredSince, AreUndoneSince}
use Rattle.ic_answer.proofs.unstepping.undo_in_turn.Given as goal

abbrev pub invariant-loop-id : goal.invariant-loop-id
invariant-loop-id g l = record {
  did : (line : ℕ) (order : List Stander) → AreFiredSince l.fn.bench line order → map (λ x. x.id) order ≡ l.ids → AreUndoneSince l.fn.bench line (take l.id-index order) (drop l.id-index order) l.bench;
  enough : length l.ids ≤ l.id-index + l.bench.room;
}
