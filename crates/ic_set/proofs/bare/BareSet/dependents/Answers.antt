use Rattle.std.proofs.lemmas.Result.{IfOk-weaker}
use Rattle.ic_set.specs.Placed.{ArePlaced}
use Rattle.ic_set.specs.Removal.{Stands}
use Rattle.ic_set.specs.Views.{SetView, NamedView}
use Rattle.ic_path.specs.Orders.{IsIn}
use Rattle.ic_set.proofs.OrderedIds.{ids_in_order, placed_so, dependents_of}
use Rattle.ic_set.proofs.LeastDependents.{dependents_stand}
use Rattle.ic_set.proofs.bare.BareSet.dependents.Goals as goal

pub in_order-requires : goal.in_order-requires
in_order-requires g c =
    let v : SetView = record { start = c.self.inside.start; agents = c.self.inside.roster.agents; events = c.self.inside.roster.events } in
    let stands : Stands v c.args.id = rw (← c.self.view_is) at c.requires in
    rw (c.deref.ensures.value, c.in_ok-ids.ensures) (record {
      once = c.event_dependents.ensures.once;
      standing = rw (← c.self.view_is) (dependents_stand v _ c.self.invariant _ stands _ c.event_dependents.ensures);
    })

pub returns : goal.returns
returns g c =
    let v : SetView = record { start = c.self.inside.start; agents = c.self.inside.roster.agents; events = c.self.inside.roster.events } in
    let b : NamedView = record { set = v; names = c.self.inside.roster.names } in
    let stands : Stands v c.args.id = rw (← c.self.view_is) at c.requires in
    let placed : ArePlaced b (λ x. IsIn x.id c.event_dependents.result) c.in_ok-in_order.field-0.items = rw (← c.self.view_is, c.deref.ensures.value, c.in_ok-ids.ensures) at c.in_ok-in_order.ensures in
    let same = dependents_of v c.self.invariant.set.own_lines c.self.invariant.set.causes c.args.id _ stands c.event_dependents.ensures in
    rw (← c.self.view_is) (IfOk-weaker c.ids_of.result _ _ (λ ids e. ids_in_order b _ _ ids.items (placed_so b _ same placed) e) (rw c.deref-2.ensures.value at c.ids_of.ensures))
