use Rattle.std.proofs.Common.{◌≢◌}
use Rattle.ic_roster.specs.Placed.{member_in}
use Rattle.ic_roster.proofs.Options.{if_some, if_none_then}
use Rattle.ic_roster.proofs.Images.{each_image}
use Rattle.ic_roster.proofs.roster.Roster.agent.Goals as goal
use Rattle.ic_path.proofs.InLists.{in-map}

pub returns-clause-found : goal.returns-clause-found
returns-clause-found c = rw (← c.self.view_is) (if_some c.get.result (λ e i. in-map (member_in c.self.inside.names) i) c.get.ensures.found)

pub returns-clause-inside : goal.returns-clause-inside
returns-clause-inside c = rw (← c.self.view_is) (if_some c.get.result (λ e i. c.self.invariant.agents (record { id = c.args.id; name = e.name; kind = e.kind }) i) c.get.ensures.found)

pub returns-clause-absent : goal.returns-clause-absent
returns-clause-absent c = rw (← c.self.view_is) (if_none_then c.get.result (each_image (member_in c.self.inside.names) c.self.inside.agents (λ x. x.id ≢ c.args.id)) c.get.ensures.absent)
