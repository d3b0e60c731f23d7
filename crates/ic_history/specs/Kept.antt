-- Lines as a history keeps them, beside a list of the events that were proposed and weren't active.
use Rattle.std.specs.Prelude.{ℕ, ◌<◌, ◌≤◌, List, length, slice_index_or, All}
use Rattle.ic_name.specs.Events.{Event}
use Rattle.ic_name.specs.Names.{start_name}
use Rattle.ic_name.specs.declared.kinds.Kind.TheVariants.{Gamma}
use Rattle.ic_name.specs.declared.limits.TheConstants.{MAX_LINES}
use Rattle.ic_roster.specs.declared.interaction.Interaction.{Interaction}
use Rattle.ic_history.specs.declared.kept.KeptLine.{KeptLine}
use Rattle.ic_history.specs.declared.kept.KeptLine.TheVariants as kept
use Rattle.ic_history.specs.declared.kept.Kinds.{Kinds}
use Rattle.ic_history.specs.declared.kept.Places.{Places}
use Rattle.ic_history.specs.Noted.{NotedLine, Fired, Limited, NotActive, Undone, NotStanding, Held}

-- the event of these kinds and places
abbrev pub event_kept : Kinds → Places → Interaction
event_kept kinds places = record { lead = places.lead; other = places.other; lead_kind = kinds.lead; other_kind = kinds.other }

-- the event at a place of the list
abbrev pub inactive_at : List Event → ℕ → Event
inactive_at inactive place = slice_index_or inactive place (record { lead = start_name 0; lead_kind = Gamma; other = start_name 0; other_kind = Gamma })

-- what a line is seen as, with the event at its place
abbrev pub line_of : List Event → KeptLine → NotedLine
line_of inactive (kept.Fired kinds places) = Fired (event_kept kinds places)
line_of inactive (kept.Limited limit kinds places) = Limited limit (event_kept kinds places)
line_of inactive (kept.NotActive place) = NotActive (inactive_at inactive place)
line_of inactive (kept.Undone line) = Undone line
line_of inactive (kept.NotStanding line) = NotStanding line
line_of inactive (kept.Held line by) = Held line by

-- an event that wasn't active has its place in the list
abbrev pub IsPlaced : List Event → KeptLine → Type 0
IsPlaced inactive (kept.Fired kinds places) = Unit {0}
IsPlaced inactive (kept.Limited limit kinds places) = Unit {0}
IsPlaced inactive (kept.NotActive place) = place < length inactive
IsPlaced inactive (kept.Undone line) = Unit {0}
IsPlaced inactive (kept.NotStanding line) = Unit {0}
IsPlaced inactive (kept.Held line by) = Unit {0}

-- the lines are few, no fewer than the events that weren't active, and each of these that a line tells has its place
pub record IsWhole (inactive : List Event) (lines : List KeptLine) : Type 0 where
  pub few : length lines ≤ MAX_LINES
  pub fewer : length inactive ≤ length lines
  pub placed : All (IsPlaced inactive) lines
