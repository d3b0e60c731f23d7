use Rattle.std.proofs.Common.{◌≡◌, ◌≤◌}
use Rattle.ic_command.specs.Left.{work}
use Rattle.ic_session.specs.Streams.{left_in, written_to}
use Rattle.ic_session.proofs.NetsInTurn.{HaveLed}
use Rattle.ic_session.proofs.session.run_over.Given as goal

abbrev pub invariant-loop-status : goal.invariant-loop-status
invariant-loop-status g l = record {
  led : HaveLed l.fn.setting.mode (left_in g.R.Read.remaining l.fn.source) (left_in g.R.Read.remaining l.source) (written_to g.W.Write.contents l.fn.sink) (written_to g.W.Write.contents l.sink);
  fewer : l.source.input.reads ≤ l.fn.source.input.reads;
  same_writer : l.sink.writer.ghost_name ≡ l.fn.sink.writer.ghost_name;
}

abbrev pub decreases-loop-status : goal.decreases-loop-status
decreases-loop-status g l = work l.source.input
