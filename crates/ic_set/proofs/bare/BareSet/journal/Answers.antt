use Rattle.std.proofs.lemmas.Result.{IfOk-weaker}
use Rattle.ic_set.proofs.RankedEvents.{journal_in_order}
use Rattle.ic_set.specs.Orders.{IsAny}
use Rattle.ic_set.specs.Placed.{ArePlaced}
use Rattle.ic_set.specs.Views.{SetView, NamedView}
use Rattle.ic_set.proofs.bare.BareSet.journal.Goals as goal

pub journal_of-requires : goal.journal_of-requires
journal_of-requires g c = let all = rw (← c.self.view_is) at c.in_ok-all_placed.ensures in rw c.deref.ensures.value all.standing

pub returns : goal.returns
returns g c =
    let v : SetView = record { start = c.self.inside.start; agents = c.self.inside.roster.agents; events = c.self.inside.roster.events } in
    let b : NamedView = record { set = v; names = c.self.inside.roster.names } in
    let all : ArePlaced b IsAny c.in_ok-all_placed.field-0.items = rw (← c.self.view_is) at c.in_ok-all_placed.ensures in
    rw (← c.self.view_is) (IfOk-weaker c.journal_of.result _ _ (λ text e. (_, journal_in_order b c.self.invariant.set _ all e.0 e.1, e.2)) (rw c.deref.ensures.value at c.journal_of.ensures))
