use Rattle.std.proofs.Common.{sym, subst}
use Rattle.std.proofs.lemmas.Result.{IfOk-weaker}
use Rattle.ic_set.proofs.RankedEvents.{events_in_order}
use Rattle.ic_set.specs.Orders.{AreCanonical, IsAny}
use Rattle.ic_set.specs.Placed.{ArePlaced}
use Rattle.ic_set.specs.Views.{SetView, NamedView}
use Rattle.ic_set.proofs.bare.BareSet.events.Goals as goal

pub events_of-requires : goal.events_of-requires
events_of-requires g c = let all = rw (← c.self.view_is) at c.in_ok-all_placed.ensures in rw c.deref.ensures.value all.standing

pub returns : goal.returns
returns g c =
    let v : SetView = record { start = c.self.inside.start; agents = c.self.inside.roster.agents; events = c.self.inside.roster.events } in
    let b : NamedView = record { set = v; names = c.self.inside.roster.names } in
    let all : ArePlaced b IsAny c.in_ok-all_placed.field-0.items = rw (← c.self.view_is) at c.in_ok-all_placed.ensures in
    rw (← c.self.view_is) (IfOk-weaker c.events_of.result _ _ (λ events e. subst (λ es. AreCanonical v es) (sym e.2) (events_in_order b c.self.invariant.set _ all e.0 e.1)) (rw c.deref.ensures.value at c.events_of.ensures))
