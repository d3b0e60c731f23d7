use Rattle.std.proofs.Common.{refl}
use Rattle.ic_undo.specs.declared.faults.UndoAllFault.TheVariants as fault
use Rattle.ic_command.specs.declared.command.Command.TheVariants.{UndoAll}
use Rattle.ic_answer.specs.Texts.{undone_all_text}
use Rattle.ic_answer.proofs.ChangedEvents.{changed_at_error}
use Rattle.ic_answer.proofs.TurnSteps.{stays_for_memory}
use Rattle.ic_answer.proofs.UnwindingReplies.{all_fault_known, undoes_all, undo_all_doesnt_fit, undoes_or_refused, undoing_so_many}
use Rattle.ic_answer.proofs.unwinding.undo_everything.Goals as goal

pub returns-in-Ok-clause-turns : goal.returns-in-Ok-clause-turns
returns-in-Ok-clause-turns g c =
    let did = c.in-Ok.ensures.undone in
    let known = undone_all_text c.in-Ok.count in
    undoes_or_refused c.args.bench.now c.clear-cleared.new.bench UndoAll c.in-Ok.count did.undone known c.undone_all_text.result c.text_or_refused.result c.lawful-2.ensures tt did.counted did.did
    (undoes_all c.args.bench.now c.clear-cleared.new.bench c.lawful.ensures c.lawful-2.ensures c.in-Ok.count known did refl)
    c.undone_all_text.ensures c.text_or_refused.ensures.text c.text_or_refused.ensures.refused

pub returns-in-Ok-clause-changed : goal.returns-in-Ok-clause-changed
returns-in-Ok-clause-changed g c =
    let did = c.in-Ok.ensures.undone in
    changed_at_error c.args.bench.now c.clear-cleared.new.bench c.text_or_refused.result
    (undoing_so_many c.args.bench.now c.clear-cleared.new.bench c.in-Ok.count did.undone did.counted did.did) c.text_or_refused.ensures.error

pub returns-in-Err-HistoryFull-clause-turns : goal.returns-in-Err-HistoryFull-clause-turns
returns-in-Err-HistoryFull-clause-turns g c =
    let refuses = all_fault_known c.args.bench.now c.clear-cleared.new.bench c.clear-cleared.result c.in-Err-HistoryFull.field-0 fault.HistoryFull c.in-Err-HistoryFull.is
    (rw c.in-Err-HistoryFull.is at c.in-Err-HistoryFull.field-0-is) c.clear-cleared.ensures.fault in
    undo_all_doesnt_fit c.args.bench.now c.clear-cleared.new.bench c.lawful.ensures c.lawful-2.ensures refuses.0 refuses.1

pub returns-in-Err-Memory-clause-turns : goal.returns-in-Err-Memory-clause-turns
returns-in-Err-Memory-clause-turns g c =
    let refuses = all_fault_known c.args.bench.now c.clear-cleared.new.bench c.clear-cleared.result c.in-Err-Memory.field-0 fault.Memory c.in-Err-Memory.is
    (rw c.in-Err-Memory.is at c.in-Err-Memory.field-0-is) c.clear-cleared.ensures.fault in
    stays_for_memory c.args.bench.now c.clear-cleared.new.bench UndoAll tt refuses
