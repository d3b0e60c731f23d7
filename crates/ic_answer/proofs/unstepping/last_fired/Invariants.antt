use Rattle.std.proofs.Common.{◌≤◌, length}
use Rattle.ic_answer.specs.LastFired.{AreSince}
use Rattle.ic_answer.proofs.unstepping.last_fired.Given as goal

abbrev pub invariant-loop-line : goal.invariant-loop-line
invariant-loop-line g l = record {
  since : AreSince l.bench l.line l.ids.items;
  few : length l.ids.items ≤ l.most;
}
