use Rattle.std.proofs.Common.{ap, subst, ◌∙◌}
use Rattle.std.specs.List.Sorted.{IsSortedBy}
use Rattle.ic_set.specs.Placed.{is_placed_before}
use Rattle.ic_set.specs.Views.{NamedView}
use Rattle.ic_set.proofs.PlacedOrders.{placed_in_order}
use Rattle.ic_set.proofs.bare.BareSet.in_order.Goals as goal

pub returns : goal.returns
returns g c =
    placed_in_order c.args.self.now c.lawful.ensures.set c.lawful.ensures.table c.args.ids.now _ _ c.requires.once c.in_ok-placed.ensures.under c.in_ok-placed.ensures.shown c.in_ok-put_in_order.ensures.same
    (subst (λ ns. IsSortedBy (is_placed_before ns) c.put_in_order.new.placed.items) (c.names.ensures ∙ ap (λ (w : NamedView). w.names) c.self.view_is) c.in_ok-put_in_order.ensures.ordered)
