use Rattle.std.proofs.Common.{subst}
use Rattle.ic_undo.specs.Undone.{RestsOn}
use Rattle.ic_undo.specs.Backwards.{AreUndoneBack}
use Rattle.ic_undo.proofs.StayedBenches.{unchanged}
use Rattle.ic_undo.proofs.FreeOrders.{resting_with_dependents}
use Rattle.ic_undo.proofs.Unwinds.{ids_of_free, unwound, dont_fit, none_stands, one_stands}
use Rattle.ic_undo.proofs.unwinding.unwind.Goals as goal

pub returns-then-is_none-clause-fault : goal.returns-then-is_none-clause-fault
returns-then-is_none-clause-fault g c = (none_stands c.args.bench.now c.args.id c.rank.result c.if-is_none.ensures c.rank.ensures, unchanged c.args.bench.now)

pub returns-in_default-clause-fault : goal.returns-in_default-clause-fault
returns-in_default-clause-fault g c = (one_stands c.args.bench.now c.args.id c.rank.result c.if-is_none.ensures c.rank.ensures, unchanged c.args.bench.now)

pub undo_back-requires : goal.undo_back-requires
undo_back-requires g c = rw c.deref.ensures.value (ids_of_free c.args.bench.now (RestsOn c.args.bench.now c.args.id.line) c.in-Ok.ids.items c.lawful.ensures (resting_with_dependents c.args.bench.now c.args.id.line) c.in-Ok.ensures)

pub returns-in-Ok-undo_back-clause-unwound : goal.returns-in-Ok-undo_back-clause-unwound
returns-in-Ok-undo_back-clause-unwound g c =
    unwound c.args.bench.now c.undo_back.new.bench (RestsOn c.args.bench.now c.args.id.line) c.in-Ok.ids.items c.in-Ok-undo_back.names.items c.lawful.ensures (resting_with_dependents c.args.bench.now c.args.id.line) c.in-Ok.ensures
    (subst (λ ids. AreUndoneBack c.args.bench.now ids c.in-Ok-undo_back.names.items c.undo_back.new.bench) c.deref.ensures.value c.in-Ok-undo_back.ensures.undone)

pub returns-in-Ok-undo_back-clause-stood : goal.returns-in-Ok-undo_back-clause-stood
returns-in-Ok-undo_back-clause-stood g c = one_stands c.args.bench.now c.args.id c.rank.result c.if-is_none.ensures c.rank.ensures

pub returns-in-Err-HistoryFull-clause-fault : goal.returns-in-Err-HistoryFull-clause-fault
returns-in-Err-HistoryFull-clause-fault g c =
    let fault = rw (c.in-Err-HistoryFull.field-0-is, c.deref.ensures.value) at c.in-Err-HistoryFull.ensures.fault in (
      one_stands c.args.bench.now c.args.id c.rank.result c.if-is_none.ensures c.rank.ensures,
      dont_fit c.args.bench.now (RestsOn c.args.bench.now c.args.id.line) c.in-Ok.ids.items c.in-Ok.ensures fault.0,
      fault.1,
    )

pub returns-clause-fault : goal.returns-clause-fault
returns-clause-fault g c = (one_stands c.args.bench.now c.args.id c.rank.result c.if-is_none.ensures c.rank.ensures, rw c.in-Err-Memory.field-0-is at c.in-Err-Memory.ensures.fault)
