-- The letters of the accepted calls of a history.
use Rattle.std.specs.Prelude.{List, [], ◌∷◌, slice_get, Option, Some, None}
use Rattle.std.specs.List.{flat_map}
use Rattle.ic_name.specs.Events.{Event, pair}
use Rattle.ic_name.specs.declared.lines.Line.{Line}
use Rattle.ic_name.specs.declared.lines.Call.{Call}
use Rattle.ic_name.specs.declared.lines.Call.TheVariants as call
use Rattle.ic_name.specs.declared.lines.Reply.{Reply}
use Rattle.ic_name.specs.declared.lines.Reply.TheVariants as reply
use Rattle.ic_trace.specs.declared.lists.Letter.{Letter}
use Rattle.ic_trace.specs.declared.lists.Letter.TheVariants.{Fire, Undo}

-- the event that a call is to fire
abbrev pub event_of : Call → Option Event
event_of (call.Fire e) = Some e
event_of (call.Undo l) = None

-- the event that is to be fired in a line, if there is such a line
abbrev pub event_in : Option Line → Option Event
event_in None = None
event_in (Some line) = event_of line.call

-- the letter that undoes this event
abbrev pub undo_of : Option Event → List Letter
undo_of None = []
undo_of (Some e) = Undo (pair e) ∷ []

-- the letter of a call that was answered so, if it was accepted
abbrev pub letter_for : List Line → Call → Reply → List Letter
letter_for lines (call.Fire e) reply.Fired = Fire (pair e) ∷ []
letter_for lines (call.Undo l) reply.Undone = undo_of (event_in (slice_get lines l))
letter_for lines _ _ = []

-- the letter of a line, if its call was accepted
abbrev pub letter_of : List Line → Line → List Letter
letter_of lines line = letter_for lines line.call line.reply

-- the letters of all lines in order
abbrev pub accepted : List Line → List Letter
accepted lines = flat_map (letter_of lines) lines
