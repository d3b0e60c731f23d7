use Rattle.std.proofs.lemmas.Result.{IfOk-weaker}
use Rattle.ic_set.specs.Views.{SetView}
use Rattle.ic_set.proofs.OrderedIds.{ids_once, ids_stand, any_of_all, placed_so}
use Rattle.ic_set.proofs.bare.BareSet.all_placed.Goals as goal

pub in_order-requires : goal.in_order-requires
in_order-requires g c =
    let v : SetView = record { start = c.self.inside.start; agents = c.self.inside.roster.agents; events = c.self.inside.roster.events } in
    rw c.deref.ensures.value (record {
      once = ids_once _ _ c.self.invariant.set.own_lines c.in_ok-event_ids.ensures;
      standing = rw (← c.self.view_is) (ids_stand v _ c.in_ok-event_ids.ensures);
    })

pub returns : goal.returns
returns g c =
    let all = rw (← c.self.view_is, c.deref.ensures.value) at c.in_order.ensures in
    rw (← c.self.view_is) (IfOk-weaker c.in_order.result _ _ (λ placed h. placed_so _ placed.items (any_of_all _ _ c.in_ok-event_ids.ensures) h) all)
