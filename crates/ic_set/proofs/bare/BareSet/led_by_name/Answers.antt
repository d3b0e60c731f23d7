use Rattle.ic_set.specs.Views.{NamedView}
use Rattle.ic_set.proofs.LookedUp.{lead_leads_none, led_named}
use Rattle.ic_set.proofs.bare.BareSet.led_by_name.Goals as goal

pub returns-then-is_lead-clause-absent : goal.returns-then-is_lead-clause-absent
returns-then-is_lead-clause-absent g c =
    let v : NamedView = record { set = record { start = c.self.inside.start; agents = c.self.inside.roster.agents; events = c.self.inside.roster.events }; names = c.self.inside.roster.names } in
    let x = c.is_lead.ensures.0 c.if-is_lead.true in
    rw (← c.self.view_is) (lead_leads_none v c.self.invariant.set c.args.name.place x.0 x.1 x.2)

pub returns : goal.returns
returns g c =
    let r = led_named c.args.self.now c.lawful.ensures.set c.args.name.place c.named.result c.led.result (rw (← c.self.view_is) c.named.ensures.found) (rw (← c.self.view_is) c.named.ensures.absent) c.led.ensures.found c.led.ensures.absent in
    record { found = r.0; absent = r.1 }
