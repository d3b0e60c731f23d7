-- What the lines of a history are seen as: the event of an active pair by the places of its agents' names.
use Rattle.std.specs.Prelude.{ℕ, List, All}
use Rattle.ic_name.specs.Names.{Name}
use Rattle.ic_name.specs.Events.{Event}
use Rattle.ic_name.specs.declared.lines.Call.TheVariants.{Fire, Undo}
use Rattle.ic_name.specs.declared.lines.Line.{Line}
use Rattle.ic_name.specs.declared.lines.Reply.TheVariants as reply
use Rattle.ic_roster.specs.Rosters.{event_in, IsNamed}
use Rattle.ic_roster.specs.declared.interaction.Interaction.{Interaction}
use Rattle.ic_history.specs.declared.limit.Limit.{Limit}
use Rattle.ic_history.specs.Limits.{reply_of}

-- a call with its reply: the event of an active pair was fired, or met a limit; an event wasn't active; the firing in a line
-- was undone, or none stood that was fired there, or it was held by one that was fired in another
pub data NotedLine : Type 0 where
  Fired : Interaction → NotedLine
  Limited : Limit → Interaction → NotedLine
  NotActive : Event → NotedLine
  Undone : ℕ → NotedLine
  NotStanding : ℕ → NotedLine
  Held : ℕ → ℕ → NotedLine

-- the line, with the names at its places
abbrev pub line_in : List Name → NotedLine → Line
line_in ns (Fired i) = record { call = Fire (event_in ns i); reply = reply.Fired }
line_in ns (Limited limit i) = record { call = Fire (event_in ns i); reply = reply_of limit }
line_in ns (NotActive e) = record { call = Fire e; reply = reply.NotActive }
line_in ns (Undone line) = record { call = Undo line; reply = reply.Undone }
line_in ns (NotStanding line) = record { call = Undo line; reply = reply.NotStanding }
line_in ns (Held line by) = record { call = Undo line; reply = reply.Held by }

-- the event of an active pair has its places among the names
abbrev pub IsLineNamed : List Name → NotedLine → Type 0
IsLineNamed ns (Fired i) = IsNamed ns i
IsLineNamed ns (Limited limit i) = IsNamed ns i
IsLineNamed ns (NotActive e) = Unit {0}
IsLineNamed ns (Undone line) = Unit {0}
IsLineNamed ns (NotStanding line) = Unit {0}
IsLineNamed ns (Held line by) = Unit {0}

-- each of the lines is named
abbrev pub AreLinesNamed : List Name → List NotedLine → Type 0
AreLinesNamed ns ls = All (IsLineNamed ns) ls
