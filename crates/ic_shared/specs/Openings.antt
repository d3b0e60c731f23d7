-- What an opening is seen as.
use Rattle.std.specs.Prelude.{ℕ, List}
use Rattle.ic_name.specs.declared.lines.Line.{Line}
use Rattle.ic_theory.specs.Starts.{Start}

-- the start and the lines that stood when a bench was shared, and the number of passes
pub record OpeningView : Type 0 where
  pub start : Start
  pub lines : List Line
  pub passes : ℕ

-- the opening of a bench with this start and these lines
abbrev pub opened : Start → List Line → ℕ → OpeningView
opened start lines passes = record { start = start; lines = lines; passes = passes }
