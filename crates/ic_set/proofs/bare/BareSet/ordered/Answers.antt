use Rattle.std.proofs.lemmas.Result.{IfOk-weaker}
use Rattle.ic_set.proofs.OrderedIds.{ids_in_order}
use Rattle.ic_set.proofs.bare.BareSet.ordered.Goals as goal

pub returns : goal.returns
returns g c = IfOk-weaker c.ids_of.result _ _ (λ ids e. ids_in_order _ _ _ ids.items c.in_ok-in_order.ensures e) (rw c.deref.ensures.value at c.ids_of.ensures)
