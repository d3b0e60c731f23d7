use Rattle.std.proofs.Common.{◌<◌, length}
use Rattle.ic_roster.proofs.Named.{named_lead}
use Rattle.ic_roster.proofs.roster.Roster.is_lead.Goals as goal

pub returns : goal.returns
returns c =
    let inside : c.args.name.place < length c.self.inside.names = rw (← c.self.view_is) at c.requires in
    let both = named_lead c.self.inside.names c.lawful.ensures c.self.inside.agents c.self.inside.events c.self.invariant c.args.name inside in
    rw (← c.self.view_is) (λ h. both.0 (c.is_lead.ensures.0 h), λ h. c.is_lead.ensures.1 (both.1 h))
