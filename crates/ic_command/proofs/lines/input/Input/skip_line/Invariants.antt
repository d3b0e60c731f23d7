use Rattle.std.proofs.Common.{◌≤◌, drop}
use Rattle.std.specs.Io.KnownBytes.{prepend_known}
use Rattle.ic_command.specs.Left.{work}
use Rattle.ic_command.proofs.Taken.{SameBehind}
use Rattle.ic_command.proofs.lines.input.Input.skip_line.Given as goal

abbrev pub invariant-loop-self : goal.invariant-loop-self
invariant-loop-self g l = record {
  same : SameBehind (prepend_known (drop l.fn.self.start l.fn.self.buffer.items) (g.R.Read.remaining l.fn.reader)) (prepend_known (drop l.self.start l.self.buffer.items) (g.R.Read.remaining l.reader));
  less : work l.self ≤ work l.fn.self;
  fewer : l.self.reads ≤ l.fn.self.reads;
}

abbrev pub decreases-loop-self : goal.decreases-loop-self
decreases-loop-self g l = l.self.reads
