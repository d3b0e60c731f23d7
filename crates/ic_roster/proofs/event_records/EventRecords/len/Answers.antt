use Rattle.std.proofs.Common.{List, sym, ◌∙◌, ap, length}
use Rattle.ic_roster.specs.Placed.{PlacedEvent}
use Rattle.ic_roster.specs.EventSlots.{id_in, event_by}
use Rattle.ic_roster.proofs.Slots.{length-shown}
use Rattle.ic_roster.proofs.event_records.EventRecords.len.Goals as goal

pub returns : goal.returns
returns c = c.len.ensures ∙ sym (length-shown (event_by (id_in c.self.inside.records.slots)) c.self.inside.records.slots) ∙ ap (λ (xs : List PlacedEvent). length xs) c.self.view_is
