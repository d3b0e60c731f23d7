-- What a bench is seen as.
use Rattle.std.specs.Prelude.{ℕ, List, map}
use Rattle.ic_name.specs.Names.{Name}
use Rattle.ic_name.specs.declared.lines.Line.{Line}
use Rattle.ic_theory.specs.Starts.{Start}
use Rattle.ic_roster.specs.Rosters.{Member, Stander}
use Rattle.ic_set.specs.Views.{SetView, NamedView}
use Rattle.ic_history.specs.Noted.{line_in}
use Rattle.ic_history.specs.Histories.{HistoryView}

-- the start, the agents and the standing events under their ids, the history, the lines for which there is room, and the names
-- that are known, by place
pub record BenchView : Type 0 where
  pub start : Start
  pub agents : List Member
  pub events : List Stander
  pub lines : List Line
  pub room : ℕ
  pub names : List Name

-- the standing set of a bench
abbrev pub set_of : BenchView → SetView
set_of v = record { start = v.start; agents = v.agents; events = v.events }

-- the bench of a standing set and a history, whose lines have the names that the set knows
abbrev pub view_of : NamedView → HistoryView → BenchView
view_of s h = record { start = s.set.start; agents = s.set.agents; events = s.set.events; lines = map (line_in s.names) h.lines; room = h.room; names = s.names }
