use Rattle.std.proofs.Common.{◌<◌, length}
use Rattle.ic_roster.specs.Placed.{member_in}
use Rattle.ic_roster.proofs.Options.{if_some, if_none_then}
use Rattle.ic_roster.proofs.Named.{new_name}
use Rattle.ic_roster.proofs.roster.Roster.named.Goals as goal
use Rattle.ic_path.proofs.InLists.{in-map}

pub returns-clause-found : goal.returns-clause-found
returns-clause-found c = rw (← c.self.view_is) (if_some c.at.result (λ id h. (h.0, in-map (member_in c.self.inside.names) h.1)) c.at.ensures.found)

pub returns-clause-absent : goal.returns-clause-absent
returns-clause-absent c =
    let inside : c.args.name.place < length c.self.inside.names = rw (← c.self.view_is) at c.requires in
    rw (← c.self.view_is) (if_none_then c.at.result (new_name c.self.inside.names c.lawful.ensures c.self.inside.agents c.self.inside.events c.self.invariant c.args.name.place inside) c.at.ensures.absent)
