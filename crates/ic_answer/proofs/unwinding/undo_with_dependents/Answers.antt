use Rattle.std.proofs.Common.{[], ◌++◌, codes, length, refl, ap}
use Rattle.std.specs.Fmt.{decimal}
use Rattle.std.specs.List.{flat_map}
use Rattle.ic_name.specs.declared.ids.EventId.{EventId}
use Rattle.ic_undo.specs.declared.faults.UnwindFault.TheVariants as fault
use Rattle.ic_command.specs.declared.command.Command.TheVariants.{Unwind}
use Rattle.ic_answer.specs.declared.refused.Refused.TheVariants as refused
use Rattle.ic_answer.specs.Texts.{pair_line, refusal_text}
use Rattle.ic_answer.proofs.ChangedEvents.{changed_at_error}
use Rattle.ic_answer.proofs.TurnSteps.{told, stays_for_memory}
use Rattle.ic_answer.proofs.UndoingReplies.{Stands}
use Rattle.ic_answer.proofs.UnwindingReplies.{fault_known, tells_not_standing, unwinds, unwind_doesnt_fit, undoes_or_refused, vec_count, undoing_so_many}
use Rattle.ic_answer.proofs.unwinding.undo_with_dependents.Goals as goal

pub returns-in_default-clause-turns : goal.returns-in_default-clause-turns
returns-in_default-clause-turns g c = told c.args.bench.now (Unwind c.args.event.now) (refusal_text refused.NotStanding) (tells_not_standing c.args.bench.now c.args.event.now c.in_default.ensures.absent)

pub returns-in-Ok-clause-turns : goal.returns-in-Ok-clause-turns
returns-in-Ok-clause-turns g c =
    let x = c.in-Some.ensures.found in
    let stands : Stands c.args.bench.now c.in-Some.id c.args.event.now x.0 = record { there = x.1; under = x.2; name = x.3 } in
    let did = c.in-Ok.ensures.unwound in
    let counted = vec_count c.in-Ok.names did in
    let known = codes "unwound " ++ decimal (length c.in-Ok.names.items) ++ codes "\n" ++ flat_map (pair_line []) c.in-Ok.names.items in
    undoes_or_refused c.args.bench.now c.unwind-unwound.new.bench (Unwind c.args.event.now) c.in-Ok.names.len did.undone known c.unwound_text-text.result c.text_or_refused.result c.lawful-2.ensures tt counted did.did
    (unwinds c.args.bench.now c.unwind-unwound.new.bench c.lawful.ensures c.lawful-2.ensures c.in-Some.id c.args.event.now x.0 c.in-Ok.names.items known stands did refl)
    (rw c.deref.ensures.value at c.unwound_text-text.ensures) c.text_or_refused.ensures.text (rw c.len.ensures at c.text_or_refused.ensures.refused)

pub returns-in-Ok-clause-changed : goal.returns-in-Ok-clause-changed
returns-in-Ok-clause-changed g c =
    let did = c.in-Ok.ensures.unwound in
    changed_at_error c.args.bench.now c.unwind-unwound.new.bench c.text_or_refused.result
    (undoing_so_many c.args.bench.now c.unwind-unwound.new.bench c.in-Ok.names.len did.undone (vec_count c.in-Ok.names did) did.did)
    (rw c.len.ensures at c.text_or_refused.ensures.error)

pub returns-in-Err-NotStanding-clause-turns : goal.returns-in-Err-NotStanding-clause-turns
returns-in-Err-NotStanding-clause-turns g c =
    let x = c.in-Some.ensures.found in
    let refuses = fault_known c.args.bench.now c.unwind-unwound.new.bench c.in-Some.id c.unwind-unwound.result c.in-Err-NotStanding.field-0 fault.NotStanding c.in-Err-NotStanding.is
    (rw c.in-Err-NotStanding.is at c.in-Err-NotStanding.field-0-is) c.unwind-unwound.ensures.fault in
    absurd (refuses.0 x.0 x.1 (ap (λ (d : EventId). d.line) x.2))

pub returns-in-Err-HistoryFull-clause-turns : goal.returns-in-Err-HistoryFull-clause-turns
returns-in-Err-HistoryFull-clause-turns g c =
    let x = c.in-Some.ensures.found in
    let stands : Stands c.args.bench.now c.in-Some.id c.args.event.now x.0 = record { there = x.1; under = x.2; name = x.3 } in
    let refuses = fault_known c.args.bench.now c.unwind-unwound.new.bench c.in-Some.id c.unwind-unwound.result c.in-Err-HistoryFull.field-0 fault.HistoryFull c.in-Err-HistoryFull.is
    (rw c.in-Err-HistoryFull.is at c.in-Err-HistoryFull.field-0-is) c.unwind-unwound.ensures.fault in
    unwind_doesnt_fit c.args.bench.now c.unwind-unwound.new.bench c.lawful.ensures c.lawful-2.ensures c.in-Some.id c.args.event.now x.0 stands refuses.1 refuses.2

pub returns-in-Err-Memory-clause-turns : goal.returns-in-Err-Memory-clause-turns
returns-in-Err-Memory-clause-turns g c =
    let refuses = fault_known c.args.bench.now c.unwind-unwound.new.bench c.in-Some.id c.unwind-unwound.result c.in-Err-Memory.field-0 fault.Memory c.in-Err-Memory.is
    (rw c.in-Err-Memory.is at c.in-Err-Memory.field-0-is) c.unwind-unwound.ensures.fault in
    stays_for_memory c.args.bench.now c.unwind-unwound.new.bench (Unwind c.args.event.now) tt refuses.1
