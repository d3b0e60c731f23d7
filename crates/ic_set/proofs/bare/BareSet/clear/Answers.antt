use Rattle.ic_set.specs.Cleared.{AreAll}
use Rattle.ic_set.specs.Views.{SetView}
use Rattle.ic_set.proofs.ClearedSets.{clears, cleared_kept, all_makers}
use Rattle.ic_set.proofs.bare.BareSet.clear.Goals as goal

pub take_all-requires : goal.take_all-requires
take_all-requires g c =
    let v : SetView = record { start = c.self.inside.start; agents = c.self.inside.roster.agents; events = c.self.inside.roster.events } in
    let all : AreAll v c.args.ids.now = rw (← c.self.view_is) at c.requires.all in
    all_makers v _ c.self.invariant c.args.ids.now all.each

pub invariant_of-self : goal.invariant_of-self
invariant_of-self g c =
    let v : SetView = record { start = c.self.inside.start; agents = c.self.inside.roster.agents; events = c.self.inside.roster.events } in
    let all : AreAll v c.args.ids.now = rw (← c.self.view_is) at c.requires.all in
    rw c.clear_events.ensures.events (cleared_kept v _ c.self.invariant c.args.ids.now all.each _ c.lawful.ensures.names c.clear_events.ensures.agents _ c.take_all.ensures)

pub returns-clause-cleared : goal.returns-clause-cleared
returns-clause-cleared g c =
    let v : SetView = record { start = c.self.inside.start; agents = c.self.inside.roster.agents; events = c.self.inside.roster.events } in
    rw (← c.self.view_is, c.clear_events.ensures.events) (clears v _ c.clear_events.ensures.agents)
