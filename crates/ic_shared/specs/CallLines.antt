-- The lines that calls add to a history.
use Rattle.std.specs.Prelude.{List, [], ◌∷◌, Option, Some, None, Result, Ok, Err}
use Rattle.ic_name.specs.Events.{Event}
use Rattle.ic_name.specs.declared.ids.EventId.{EventId}
use Rattle.ic_name.specs.declared.lines.Call.{Call}
use Rattle.ic_name.specs.declared.lines.Call.TheVariants.{Fire, Undo}
use Rattle.ic_name.specs.declared.lines.Line.{Line}
use Rattle.ic_name.specs.declared.lines.Reply.{Reply}
use Rattle.ic_name.specs.declared.lines.Reply.TheVariants as reply
use Rattle.ic_set.specs.declared.pairs.Fired.{Fired}
use Rattle.ic_journal.specs.declared.faults.FireFault.{FireFault}
use Rattle.ic_journal.specs.declared.faults.FireFault.TheVariants as fire
use Rattle.ic_journal.specs.declared.faults.PairFault.{PairFault}
use Rattle.ic_journal.specs.declared.faults.PairFault.TheVariants as pair
use Rattle.ic_journal.specs.declared.faults.UndoFault.{UndoFault}
use Rattle.ic_journal.specs.declared.faults.UndoFault.TheVariants as undo

-- the reply that stands in the history for an answer to a firing; none where the call is no step
abbrev pub fire_reply : Result EventId FireFault → Option Reply
fire_reply (Ok id) = Some reply.Fired
fire_reply (Err fire.NotActive) = Some reply.NotActive
fire_reply (Err fire.Deep) = Some reply.Deep
fire_reply (Err fire.Full) = Some reply.Full
fire_reply (Err (fire.HistoryFull e)) = None
fire_reply (Err (fire.Memory e)) = None

-- the same for an answer to the firing of an active pair
abbrev pub pair_reply : Result Fired PairFault → Option Reply
pair_reply (Ok fired) = Some reply.Fired
pair_reply (Err pair.Deep) = Some reply.Deep
pair_reply (Err pair.Full) = Some reply.Full
pair_reply (Err pair.HistoryFull) = None
pair_reply (Err pair.Memory) = None

-- the same for an answer to an undo
abbrev pub undo_reply : Result (Unit {0}) UndoFault → Option Reply
undo_reply (Ok u) = Some reply.Undone
undo_reply (Err undo.NotStanding) = Some reply.NotStanding
undo_reply (Err (undo.Held d)) = Some (reply.Held d.line)
undo_reply (Err undo.HistoryFull) = None
undo_reply (Err undo.Memory) = None

-- the line of a call with its reply, if it has one
abbrev pub lines_of : Call → Option Reply → List Line
lines_of call None = []
lines_of call (Some r) = record { call = call; reply = r } ∷ []

-- the line that firing an event with this answer adds
abbrev pub fire_lines : Event → Result EventId FireFault → List Line
fire_lines e r = lines_of (Fire e) (fire_reply r)

-- the line that firing an active pair of this event with this answer adds
abbrev pub pair_lines : Event → Result Fired PairFault → List Line
pair_lines e r = lines_of (Fire e) (pair_reply r)

-- the line that an undo with this answer adds
abbrev pub undo_lines : EventId → Result (Unit {0}) UndoFault → List Line
undo_lines id r = lines_of (Undo id.line) (undo_reply r)
