-- How standing events are kept: records under slots, and an index of the slots by the place of the lead.
use Rattle.std.specs.Prelude.{ℕ, List, Option, map, unwrap_or}
use Rattle.ic_name.specs.declared.ids.EventId.{EventId}
use Rattle.ic_roster.specs.KeptEvents.{KeptEvent}
use Rattle.ic_roster.specs.Placed.{PlacedEvent, child_in}
use Rattle.ic_roster.specs.Slots.{shown, number_at, HaveOwnNumbers, IsIndexOf}

-- the line of a record
abbrev pub event_line : KeptEvent → ℕ
event_line e = e.line

-- the place of the name of a record's lead
abbrev pub event_lead : KeptEvent → ℕ
event_lead e = e.interaction.lead.place

-- the id of the event in a slot
abbrev pub id_in : List (Option KeptEvent) → ℕ → EventId
id_in slots k = record { slot = k; line = unwrap_or (number_at event_line slots k) 0 }

-- the event of the record under a slot, where the causes have these ids
abbrev pub event_by : (ℕ → EventId) → ℕ × KeptEvent → PlacedEvent
event_by ids p = record { id = record { slot = p.0; line = p.1.line }; interaction = p.1.interaction; rank = p.1.rank; born = map (child_in p.1.line) p.1.born; causes = map ids p.1.causes }

-- the events, by rising slot
abbrev pub events_in : List (Option KeptEvent) → List PlacedEvent
events_in slots = shown (event_by (id_in slots)) slots

-- each event has a line of its own, and the index has each event's slot under the place of its lead, and nothing else
pub record AreIndexed (slots : List (Option KeptEvent)) (leads : List (Option ℕ)) : Type 0 where
  pub lined : HaveOwnNumbers event_line slots
  pub led : IsIndexOf event_lead slots leads
