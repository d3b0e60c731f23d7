use Rattle.std.proofs.Common.{◌≡◌, ◌≤◌, false, drop, length}
use Rattle.std.specs.Io.KnownBytes.{prepend_known, Consumes}
use Rattle.ic_command.specs.Left.{work}
use Rattle.ic_command.specs.Lines.{has_feed}
use Rattle.ic_command.proofs.lines.input.Input.next_line.Given as goal

abbrev pub invariant-loop-self : goal.invariant-loop-self
invariant-loop-self g l = record {
  short : length l.line.items ≤ l.most;
  one_line : has_feed l.line.items ≡ false;
  taken : Consumes (prepend_known (drop l.fn.self.start l.fn.self.buffer.items) (g.R.Read.remaining l.fn.reader)) (prepend_known (drop l.self.start l.self.buffer.items) (g.R.Read.remaining l.reader)) l.line.items;
  less : work l.self ≤ work l.fn.self;
  fewer : l.self.reads ≤ l.fn.self.reads;
}

abbrev pub decreases-loop-self : goal.decreases-loop-self
decreases-loop-self g l = l.self.reads
