use Rattle.std.proofs.Common.{◌≡◌, ◌≤◌}
use Rattle.ic_command.specs.Left.{work}
use Rattle.ic_desk.specs.Desks.{State}
use Rattle.ic_desk.specs.Views.{IsDeskAt}
use Rattle.ic_session.specs.Streams.{left_in, written_to}
use Rattle.ic_session.proofs.AnswerFacts.{HasAnswered}
use Rattle.ic_session.proofs.net_session.answer_all.Given as goal

abbrev pub invariant-loop-desk : goal.invariant-loop-desk
invariant-loop-desk g l = record {
  start : l.desk.bench.start ≡ l.fn.desk.bench.start;
  answered : (st : State) → IsDeskAt l.fn.desk st
      → HasAnswered l.fn.desk.bench.start l.fn.setting.mode st l.desk (left_in g.R.Read.remaining l.fn.source) (left_in g.R.Read.remaining l.source) (written_to g.W.Write.contents l.fn.sink) (written_to g.W.Write.contents l.sink);
  less : work l.source.input ≤ work l.fn.source.input;
  fewer : l.source.input.reads ≤ l.fn.source.input.reads;
  same_writer : l.sink.writer.ghost_name ≡ l.fn.sink.writer.ghost_name;
}

abbrev pub decreases-loop-desk : goal.decreases-loop-desk
decreases-loop-desk g l = work l.source.input
