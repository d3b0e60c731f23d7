use Rattle.std.proofs.Common.{◌<◌, length, ap}
use Rattle.ic_names.specs.Tables.{name_at}
use Rattle.ic_roster.specs.Placed.{stander_in}
use Rattle.ic_roster.proofs.Options.{if_some, if_none_then}
use Rattle.ic_roster.proofs.Named.{new_lead}
use Rattle.ic_roster.proofs.roster.Roster.led_by.Goals as goal
use Rattle.ic_path.proofs.InLists.{in-map}

pub returns-clause-found : goal.returns-clause-found
returns-clause-found c = rw (← c.self.view_is) (if_some c.led_by.result (λ id h. (stander_in c.self.inside.names h.0, in-map (stander_in c.self.inside.names) h.1, h.2, ap (λ n. name_at c.self.inside.names n.place) h.3)) c.led_by.ensures.found)

pub returns-clause-absent : goal.returns-clause-absent
returns-clause-absent c =
    let inside : c.args.lead.place < length c.self.inside.names = rw (← c.self.view_is) at c.requires in
    rw (← c.self.view_is) (if_none_then c.led_by.result (new_lead c.self.inside.names c.lawful.ensures c.self.inside.agents c.self.inside.events c.self.invariant c.args.lead.place inside) c.led_by.ensures.absent)
