use Rattle.ic_set.specs.Removal.{Stands, IsFree}
use Rattle.ic_set.specs.Views.{SetView}
use Rattle.ic_set.proofs.LostAgents.{lost_each}
use Rattle.ic_set.proofs.TakenOut.{nothing_depends, kept_left, takes_out}
use Rattle.std.proofs.Common.{sym, subst}
use Rattle.ic_name.specs.declared.ids.EventId.{EventId}
use Rattle.ic_names.specs.Tables.{StandsAt}
use Rattle.ic_path.specs.Orders.{IsIn}
use Rattle.ic_link.specs.Links.{Drops}
use Rattle.ic_roster.specs.Rosters.{Stander}
use Rattle.ic_set.specs.Changes.{TakesOut}
use Rattle.ic_set.proofs.bare.BareSet.take_out.Goals as goal

pub unreachable-requires : goal.unreachable-requires
unreachable-requires g c =
    let v : SetView = record { start = c.self.inside.start; agents = c.self.inside.roster.agents; events = c.self.inside.roster.events } in
    let stands : Stands v c.args.id = rw (← c.self.view_is) at c.requires.standing in
    c.in_default.ensures.lead stands.0 stands.1 stands.2

pub remove_event-requires : goal.remove_event-requires
remove_event-requires g c =
    let v : SetView = record { start = c.self.inside.start; agents = c.self.inside.roster.agents; events = c.self.inside.roster.events } in
    let stands : Stands v c.args.id = rw (← c.self.view_is) at c.requires.standing in
    let free : IsFree v c.args.id = rw (← c.self.view_is) at c.requires.free in
    subst (λ (d : EventId). (x : Stander) → IsIn x v.events → IsIn d x.causes → ⊥) stands.2
    (nothing_depends v _ c.self.invariant stands.0 stands.1 (subst (IsFree v) (sym stands.2) free))

pub invariant_of-self : goal.invariant_of-self
invariant_of-self g c =
    let v : SetView = record { start = c.self.inside.start; agents = c.self.inside.roster.agents; events = c.self.inside.roster.events } in
    let stands : Stands v c.args.id = rw (← c.self.view_is) at c.requires.standing in
    let free : IsFree v c.args.id = rw (← c.self.view_is) at c.requires.free in
    kept_left v _ c.self.invariant stands.0 stands.1 (subst (IsFree v) (sym stands.2) free) _ _ _ (c.in-Some.ensures.gone stands.0 stands.1 stands.2)
    (lost_each _ _ _ c.self.invariant.set.own_names c.lawful.ensures.names (c.in-Some.ensures.children stands.0 stands.1 stands.2))
    (subst (λ (d : EventId). Drops d (g.L.LinkStore.links c.self.inside.store) (g.L.LinkStore.links c.take_of.new.self)) (sym stands.2) c.take_of.ensures)

pub returns-clause-out : goal.returns-clause-out
returns-clause-out g c =
    let v : SetView = record { start = c.self.inside.start; agents = c.self.inside.roster.agents; events = c.self.inside.roster.events } in
    let stands : Stands v c.args.id = rw (← c.self.view_is) at c.requires.standing in
    let free : IsFree v c.args.id = rw (← c.self.view_is) at c.requires.free in
    let out = takes_out v _ c.self.invariant stands.0 stands.1 (subst (IsFree v) (sym stands.2) free) _ _ _ (c.in-Some.ensures.gone stands.0 stands.1 stands.2)
    (lost_each _ _ _ c.self.invariant.set.own_names c.lawful.ensures.names (c.in-Some.ensures.children stands.0 stands.1 stands.2))
    (subst (λ (d : EventId). Drops d (g.L.LinkStore.links c.self.inside.store) (g.L.LinkStore.links c.take_of.new.self)) (sym stands.2) c.take_of.ensures) in
    rw (← c.self.view_is) (subst (λ (d : EventId). TakesOut v d (record { start = c.self.inside.start; agents = c.remove_event.new.self.agents; events = c.remove_event.new.self.events })) stands.2 out)

pub returns-clause-lead : goal.returns-clause-lead
returns-clause-lead g c =
    rw (← c.self.view_is) (λ x i same. subst (λ ns. StandsAt ns x.event.lead c.in-Some.lead.place) (sym c.in-Some.ensures.names) (c.in-Some.ensures.lead x i same))
