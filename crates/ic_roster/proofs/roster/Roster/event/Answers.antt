use Rattle.std.proofs.Common.{◌≢◌, ap, subst}
use Rattle.ic_roster.specs.Rosters.{event_in, IsNamed}
use Rattle.ic_roster.specs.Placed.{stander_in}
use Rattle.ic_roster.proofs.Options.{if_some, if_none_then}
use Rattle.ic_roster.proofs.Images.{each_image}
use Rattle.ic_roster.proofs.roster.Roster.event.Goals as goal
use Rattle.ic_path.proofs.InLists.{in-map}

pub returns-clause-found : goal.returns-clause-found
returns-clause-found c = rw (← c.self.view_is) (if_some c.get.result (λ e t. (stander_in c.self.inside.names t.0, in-map (stander_in c.self.inside.names) t.1, t.2, ap (event_in c.self.inside.names) t.3, t.4)) c.get.ensures.found)

pub returns-clause-named : goal.returns-clause-named
returns-clause-named c =
    rw (← c.self.view_is) (if_some c.get.result (λ e t. subst (λ i. IsNamed c.self.inside.names i) t.3 (c.self.invariant.events t.0 t.1)) c.get.ensures.found)

pub returns-clause-absent : goal.returns-clause-absent
returns-clause-absent c = rw (← c.self.view_is) (if_none_then c.get.result (each_image (stander_in c.self.inside.names) c.self.inside.events (λ x. x.id ≢ c.args.id)) c.get.ensures.absent)
