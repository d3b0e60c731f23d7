-- What a note tells of the firing of an active pair.
use Rattle.std.specs.Prelude.{List, length, nat_lt, Option, Some, None, if◌then◌else◌}
use Rattle.ic_name.specs.Names.{Name}
use Rattle.ic_name.specs.declared.lines.Line.{Line}
use Rattle.ic_roster.specs.declared.interaction.Interaction.{Interaction}
use Rattle.ic_history.specs.declared.notes.PairNote.{PairNote}
use Rattle.ic_history.specs.declared.limit.Limit.{Limit}
use Rattle.ic_history.specs.Kept.{event_kept}
use Rattle.ic_history.specs.Noted.{NotedLine, Fired, Limited, NotActive, Undone, NotStanding, Held, line_in}

-- the firing of an event, which met a limit or none
abbrev pub firing_of : Option Limit → Interaction → NotedLine
firing_of None i = Fired i
firing_of (Some limit) i = Limited limit i

-- the line of a note
abbrev pub noted_of : PairNote → NotedLine
noted_of note = firing_of note.limit (event_kept note.kinds note.places)

-- the line of a note with the names at its places; none where these aren't among the names
abbrev pub line_read : List Name → PairNote → Option Line
line_read ns note =
    if nat_lt note.places.lead.place (length ns) then
    (if nat_lt note.places.other.place (length ns) then Some (line_in ns (noted_of note)) else None)
    else None

-- the line is a call to fire an active pair
abbrev pub IsOfAPair : NotedLine → Type 0
IsOfAPair (Fired i) = Unit {0}
IsOfAPair (Limited limit i) = Unit {0}
IsOfAPair (NotActive e) = ⊥
IsOfAPair (Undone line) = ⊥
IsOfAPair (NotStanding line) = ⊥
IsOfAPair (Held line by) = ⊥
