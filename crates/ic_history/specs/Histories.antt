-- What a history is seen as.
use Rattle.std.specs.Prelude.{ℕ, List}
use Rattle.ic_history.specs.Noted.{NotedLine}

-- the lines, and those for which there is room
pub record HistoryView : Type 0 where
  pub lines : List NotedLine
  pub room : ℕ
