use Rattle.std.proofs.Common.{subst, ◌∙◌}
use Rattle.ic_set.specs.Orders.{IsAny}
use Rattle.ic_journal.specs.Undone.{AreUndoneFrom}
use Rattle.ic_undo.proofs.StayedBenches.{unchanged}
use Rattle.ic_undo.proofs.FreeOrders.{all_with_dependents}
use Rattle.ic_undo.proofs.Unwinds.{ids_of_free, cleared, dont_fit, nothing_left}
use Rattle.ic_undo.proofs.unwinding.clear.Goals as goal

pub returns-in_default-clause-fault : goal.returns-in_default-clause-fault
returns-in_default-clause-fault g c = unchanged c.args.bench.now

pub undo_unnamed-requires : goal.undo_unnamed-requires
undo_unnamed-requires g c = rw c.deref.ensures.value (ids_of_free c.args.bench.now IsAny c.in-Ok.ids.items c.lawful.ensures (all_with_dependents c.args.bench.now) c.in-Ok.ensures)

pub returns-in-Ok-undo_unnamed-clause-undone : goal.returns-in-Ok-undo_unnamed-clause-undone
returns-in-Ok-undo_unnamed-clause-undone g c =
    cleared c.args.bench.now c.undo_unnamed.new.bench c.in-Ok.ids.items c.len.result c.lawful.ensures (all_with_dependents c.args.bench.now) c.in-Ok.ensures
    (subst (λ ids. AreUndoneFrom c.args.bench.now ids c.undo_unnamed.new.bench) c.deref.ensures.value c.in-Ok-undo_unnamed.ensures.undone) (c.len.ensures ∙ c.in-Ok.ids.ok.0)

pub returns-in-Ok-undo_unnamed-clause-nothing : goal.returns-in-Ok-undo_unnamed-clause-nothing
returns-in-Ok-undo_unnamed-clause-nothing g c =
    let u = cleared c.args.bench.now c.undo_unnamed.new.bench c.in-Ok.ids.items c.len.result c.lawful.ensures (all_with_dependents c.args.bench.now) c.in-Ok.ensures
    (subst (λ ids. AreUndoneFrom c.args.bench.now ids c.undo_unnamed.new.bench) c.deref.ensures.value c.in-Ok-undo_unnamed.ensures.undone) (c.len.ensures ∙ c.in-Ok.ids.ok.0) in
    nothing_left c.args.bench.now c.undo_unnamed.new.bench u.undone c.lawful.ensures.set.own_lines u.which u.did

pub returns-in-Err-HistoryFull-clause-fault : goal.returns-in-Err-HistoryFull-clause-fault
returns-in-Err-HistoryFull-clause-fault g c =
    let fault = rw (c.in-Err-HistoryFull.field-0-is, c.deref.ensures.value) at c.in-Err-HistoryFull.ensures.fault in
    (dont_fit c.args.bench.now IsAny c.in-Ok.ids.items c.in-Ok.ensures fault.0, fault.1)
