use Rattle.ic_names.specs.Tables.{name_at}
use Rattle.ic_undo.proofs.LedPlaces.{absent_lead, none_led}
use Rattle.ic_undo.proofs.marked_events.MarkedEvents.find_from.Goals as goal

pub returns-in_default-clause-absent : goal.returns-in_default-clause-absent
returns-in_default-clause-absent c =
    let m = c.self.inside in
    let absent = rw c.in_default.is at c.in_ok-name.ensures.absent in
    rw (← c.self.view_is) (absent_lead _ m.leads m.places c.self.invariant.places (name_at c.args.names.now c.args.lead.place) absent)

pub returns-clause-absent : goal.returns-clause-absent
returns-clause-absent c =
    let m = c.self.inside in
    let stands = rw c.in-Some.is at c.in_ok-name.ensures.found in
    rw (← c.self.view_is)
    (none_led _ m.leads m.places c.self.invariant.places (name_at c.args.names.now c.args.lead.place) c.lawful.ensures c.in-Some.name.place stands c.get.result c.get.ensures)
