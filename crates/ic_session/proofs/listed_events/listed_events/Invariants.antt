use Rattle.std.proofs.Common.{◌≤◌}
use Rattle.ic_command.specs.Left.{work}
use Rattle.ic_session.specs.Streams.{left_in}
use Rattle.ic_session.proofs.ListedLines.{HasListed}
use Rattle.ic_session.proofs.listed_events.listed_events.Given as goal

abbrev pub invariant-loop-taken : goal.invariant-loop-taken
invariant-loop-taken g l = record {
  listed : HasListed (left_in g.R.Read.remaining l.fn.source) (left_in g.R.Read.remaining l.source) l._taken l.all l.events.items;
  less : work l.source.input ≤ work l.fn.source.input;
  fewer : l.source.input.reads ≤ l.fn.source.input.reads;
}
