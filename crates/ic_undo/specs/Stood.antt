-- What stood at an earlier time.
use Rattle.std.specs.Prelude.{◌≡◌, ℕ, ◌++◌, List, length}
use Rattle.ic_name.specs.declared.lines.Line.{Line}
use Rattle.ic_path.specs.Orders.{Alike}
use Rattle.ic_theory.specs.Machine.{State, events, IsHistory}
use Rattle.ic_journal.specs.Views.{BenchView}
use Rattle.ic_undo.specs.Marks.{MarkView}

-- after so many lines of the history just the mark's events stood
pub record StoodAt (v : BenchView) (count : ℕ) (m : MarkView) : Type 0 where
  pub front : List Line
  pub rest : List Line
  pub lines : front ++ rest ≡ v.lines
  pub counted : length front ≡ count
  pub state : State
  pub history : IsHistory v.start front state
  pub events : Alike (events state) m.events
