use Rattle.std.proofs.Common.{◌↔◌, ◌∙◌, subst}
use Rattle.std.proofs.lemmas.Result.{IfOk-weaker}
use Rattle.ic_name.specs.declared.ids.EventId.{EventId}
use Rattle.ic_roster.specs.Rosters.{Stander}
use Rattle.ic_set.specs.Orders.{IsCauseOf}
use Rattle.ic_path.specs.Orders.{IsIn}
use Rattle.ic_set.specs.Placed.{ArePlaced}
use Rattle.ic_set.specs.Removal.{Stands}
use Rattle.ic_set.specs.Views.{SetView, NamedView}
use Rattle.ic_set.proofs.OrderedIds.{ids_in_order, placed_so, causes_once, causes_stand, causes_of}
use Rattle.ic_set.proofs.bare.BareSet.causes.Goals as goal

pub in_order-requires : goal.in_order-requires
in_order-requires g c =
    let v : SetView = record { start = c.self.inside.start; agents = c.self.inside.roster.agents; events = c.self.inside.roster.events } in
    let stands : Stands v c.args.id = rw (← c.self.view_is) at c.requires in
    let ids = c.in_ok-ids.ensures ∙ c.event_causes.ensures.causes stands.0 stands.1 stands.2 in
    rw (c.deref.ensures.value, ids) (record {
      once = causes_once v c.self.invariant.set.own_lines c.self.invariant.set.causes _ stands.1;
      standing = rw (← c.self.view_is) (causes_stand v c.self.invariant.set.own_lines c.self.invariant.set.causes _ stands.1);
    })

pub returns : goal.returns
returns g c =
    let v : SetView = record { start = c.self.inside.start; agents = c.self.inside.roster.agents; events = c.self.inside.roster.events } in
    let b : NamedView = record { set = v; names = c.self.inside.roster.names } in
    let stands : Stands v c.args.id = rw (← c.self.view_is) at c.requires in
    let ids = c.in_ok-ids.ensures ∙ c.event_causes.ensures.causes stands.0 stands.1 stands.2 in
    let placed : ArePlaced b (λ x. IsIn x.id stands.0.causes) c.in_ok-in_order.field-0.items = rw (← c.self.view_is, c.deref.ensures.value, ids) at c.in_ok-in_order.ensures in
    let same = subst (λ (d : EventId). (y : Stander) → IsIn y v.events → IsIn y.id stands.0.causes ↔ IsCauseOf v d y) stands.2 (causes_of v c.self.invariant.set.own_lines c.self.invariant.set.causes _ stands.1) in
    rw (← c.self.view_is) (IfOk-weaker c.ids_of.result _ _ (λ ids e. ids_in_order b _ _ ids.items (placed_so b _ same placed) e) (rw c.deref-2.ensures.value at c.ids_of.ensures))
