-- Histories that grow.
use Rattle.std.specs.Prelude.{◌≡◌, List, ◌++◌}
use Rattle.ic_name.specs.declared.lines.Line.{Line}
use Rattle.ic_journal.specs.Views.{BenchView}

-- the history is the old one and further lines
pub record IsLonger (old new : BenchView) : Type 0 where
  pub more : List Line
  pub lines : new.lines ≡ old.lines ++ more
