use Rattle.ic_roster.proofs.Options.{if_none}
use Rattle.ic_undo.proofs.LedPlaces.{absent_lead, none_led}
use Rattle.ic_undo.proofs.marked_events.MarkedEvents.find.Goals as goal

pub returns-in_err-name-clause-absent : goal.returns-in_err-name-clause-absent
returns-in_err-name-clause-absent c =
    let m = c.self.inside in
    rw (← c.self.view_is) (if_none c.from_residual.result _ (absent_lead _ m.leads m.places c.self.invariant.places c.args.lead.now c.in_err-name.ensures.absent))

pub returns-clause-absent : goal.returns-clause-absent
returns-clause-absent c =
    let m = c.self.inside in
    rw (← c.self.view_is)
    (none_led _ m.leads m.places c.self.invariant.places c.args.lead.now c.lawful.ensures c.in_ok-name.name.place c.in_ok-name.ensures.found c.get.result c.get.ensures)
