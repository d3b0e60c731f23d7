use Rattle.std.proofs.Common.{subst}
use Rattle.std.proofs.lemmas.Result.{IfOk-weaker}
use Rattle.ic_path.specs.Orders.{IsIn}
use Rattle.ic_path.specs.Rings.{HasEachOnce}
use Rattle.ic_set.specs.Orders.{AreInOrder}
use Rattle.ic_journal.specs.Views.{set_of}
use Rattle.ic_undo.specs.Resting.{IsRestingId}
use Rattle.ic_undo.specs.Undone.{RestsOn}
use Rattle.ic_undo.proofs.RestingCauses.{no_ids_in_order, resting_in_order}
use Rattle.ic_undo.proofs.resting.resting_on.Goals as goal

pub returns-in_default : goal.returns-in_default
returns-in_default g c = rw c.new.ensures.items (no_ids_in_order c.args.bench.now c.args.id.line c.in_default.ensures.absent)

pub ordered-requires-clause-standing : goal.ordered-requires-clause-standing
ordered-requires-clause-standing g c = rw c.deref.ensures.value (λ d i. let x = c.in_ok-ids.ensures.only d i in (x.0, x.1, x.2))

pub returns : goal.returns
returns g c =
    let v = c.args.bench.now in
    let ids = c.deref.result.now in
    let reached = subst (λ n. HasEachOnce (IsRestingId v n) c.in_ok-ids.ids.items) c.in-Some.ensures.found.3 c.in_ok-ids.ensures in
    let each : HasEachOnce (IsRestingId v c.args.id.line) ids = rw c.deref.ensures.value reached in
    IfOk-weaker c.ordered.result (λ ordered. AreInOrder (set_of v) (λ x. IsIn x.id ids) ordered.items) (λ ordered. AreInOrder (set_of v) (RestsOn v c.args.id.line) ordered.items)
    (λ ordered a. resting_in_order v c.lawful.ensures.set c.args.id.line ids each ordered.items a) c.ordered.ensures
