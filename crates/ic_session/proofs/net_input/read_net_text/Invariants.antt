use Rattle.std.proofs.Common.{◌≤◌, length}
use Rattle.ic_text.specs.declared.grammar.limits.TheConstants.{MAX_TEXT}
use Rattle.ic_command.specs.Left.{work}
use Rattle.ic_session.specs.Streams.{left_in}
use Rattle.ic_session.proofs.InputFacts.{HasRead}
use Rattle.ic_session.proofs.net_input.read_net_text.Given as goal

abbrev pub invariant-loop-line : goal.invariant-loop-line
invariant-loop-line g l = record {
  read : HasRead (left_in g.R.Read.remaining l.fn.source) (left_in g.R.Read.remaining l.source) l.text.items;
  short : length l.text.items ≤ MAX_TEXT;
  less : work l.source.input ≤ work l.fn.source.input;
  fewer : l.source.input.reads ≤ l.fn.source.input.reads;
}

abbrev pub decreases-loop-line : goal.decreases-loop-line
decreases-loop-line g l = work l.source.input
