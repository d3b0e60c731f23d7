use Rattle.std.proofs.lemmas.Option.{IfSome_then}
use Rattle.ic_set.specs.Removal.{Stands}
use Rattle.ic_set.specs.Views.{SetView}
use Rattle.ic_set.proofs.LeastDependents.{dependents_stand, none_found, least_depends}
use Rattle.ic_set.proofs.bare.BareSet.least_dependent.Goals as goal

pub least_of-requires : goal.least_of-requires
least_of-requires g c =
    let v : SetView = record { start = c.self.inside.start; agents = c.self.inside.roster.agents; events = c.self.inside.roster.events } in
    let stands : Stands v c.args.id = rw (← c.self.view_is) at c.requires in
    dependents_stand v _ c.self.invariant _ stands _ c.event_dependents.ensures

pub returns-clause-found : goal.returns-clause-found
returns-clause-found g c =
    let v : SetView = record { start = c.self.inside.start; agents = c.self.inside.roster.agents; events = c.self.inside.roster.events } in
    let stands : Stands v c.args.id = rw (← c.self.view_is) at c.requires in
    rw (← c.self.view_is) (IfSome_then c.least_of.result c.least_of.ensures.found (least_depends v _ c.self.invariant _ stands _ c.event_dependents.ensures))

pub returns-clause-absent : goal.returns-clause-absent
returns-clause-absent g c =
    let v : SetView = record { start = c.self.inside.start; agents = c.self.inside.roster.agents; events = c.self.inside.roster.events } in
    let stands : Stands v c.args.id = rw (← c.self.view_is) at c.requires in
    rw (← c.self.view_is) (none_found v _ c.self.invariant _ stands _ c.event_dependents.ensures c.least_of.result c.least_of.ensures.absent)
