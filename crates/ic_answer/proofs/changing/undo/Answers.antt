use Rattle.std.proofs.Common.{ℕ, List, sym, subst}
use Rattle.ic_journal.specs.declared.faults.UndoFault.TheVariants as fault
use Rattle.ic_command.specs.declared.command.Command.TheVariants.{Undo}
use Rattle.ic_answer.specs.declared.refused.Refused.TheVariants as refused
use Rattle.ic_answer.specs.Texts.{answer_text, refusal_text}
use Rattle.ic_answer.specs.Turns.{TurnsByCommand}
use Rattle.ic_answer.proofs.TurnSteps.{told, told_same, tells_memory}
use Rattle.ic_answer.proofs.UndoingReplies.{Stands, fault_known, tells_not_standing, tells_no_line, undoes, never_not_standing, undo_is_held}
use Rattle.ic_answer.proofs.changing.undo.Goals as goal

pub returns-in_default-clause-turns : goal.returns-in_default-clause-turns
returns-in_default-clause-turns g c = told c.args.bench.now (Undo c.args.event.now) (refusal_text refused.NotStanding) (tells_not_standing c.args.bench.now c.args.event.now c.in_default.ensures.absent)

pub returns-in_default-name_line-clause-turns : goal.returns-in_default-name_line-clause-turns
returns-in_default-name_line-clause-turns g c = told c.args.bench.now (Undo c.args.event.now) (refusal_text refused.Memory) (tells_memory c.args.bench.now (Undo c.args.event.now) tt)

pub returns-in-Ok-undone-clause-turns : goal.returns-in-Ok-undone-clause-turns
returns-in-Ok-undone-clause-turns g c =
    let x = c.in-Some.ensures.found in
    let stands : Stands c.args.bench.now c.in-Some.id c.args.event.now x.0 = record { there = x.1; under = x.2; name = x.3 } in
    subst (λ (text : List ℕ). TurnsByCommand c.args.bench.now (Undo c.args.event.now) text c.undo-undone.new.self) (sym c.in-Ok.ensures)
    (undoes c.args.bench.now c.undo-undone.new.self c.in-Some.id c.args.event.now x.0 stands c.lawful.ensures c.in-Ok-undone.ensures.0)

pub returns-in-Err-NotStanding-clause-turns : goal.returns-in-Err-NotStanding-clause-turns
returns-in-Err-NotStanding-clause-turns g c =
    let x = c.in-Some.ensures.found in
    let stands : Stands c.args.bench.now c.in-Some.id c.args.event.now x.0 = record { there = x.1; under = x.2; name = x.3 } in
    let refuses = fault_known c.args.bench.now c.undo-undone.new.self c.in-Some.id c.undo-undone.result c.in-Err-NotStanding.field-0 fault.NotStanding c.in-Err-NotStanding.is (rw c.in-Err-NotStanding.is at c.in-Err-NotStanding.field-0-is) c.undo-undone.ensures in
    never_not_standing c.args.bench.now c.undo-undone.new.self c.in-Some.id c.args.event.now x.0 stands c.lawful.ensures refuses.0

pub returns-in-Err-Held-clause-turns : goal.returns-in-Err-Held-clause-turns
returns-in-Err-Held-clause-turns g c =
    let x = c.in-Some.ensures.found in
    let stands : Stands c.args.bench.now c.in-Some.id c.args.event.now x.0 = record { there = x.1; under = x.2; name = x.3 } in
    let refuses = fault_known c.args.bench.now c.undo-undone.new.self c.in-Some.id c.undo-undone.result c.in-Err-Held.field-0 (fault.Held c.in-Err-Held.holder) c.in-Err-Held.is (rw c.in-Err-Held.is at c.in-Err-Held.field-0-is) c.undo-undone.ensures in
    let y = refuses.1 in
    undo_is_held c.args.bench.now c.undo-undone.new.self c.in-Some.id c.in-Err-Held.holder c.args.event.now x.0 y.0 (answer_text c.held.result) stands c.lawful.ensures refuses.0 y.1 y.2 (c.held.ensures y.0 y.1 y.2)

pub returns-in-Err-HistoryFull-clause-turns : goal.returns-in-Err-HistoryFull-clause-turns
returns-in-Err-HistoryFull-clause-turns g c =
    let x = c.in-Some.ensures.found in
    let stands : Stands c.args.bench.now c.in-Some.id c.args.event.now x.0 = record { there = x.1; under = x.2; name = x.3 } in
    let refuses = fault_known c.args.bench.now c.undo-undone.new.self c.in-Some.id c.undo-undone.result c.in-Err-HistoryFull.field-0 fault.HistoryFull c.in-Err-HistoryFull.is (rw c.in-Err-HistoryFull.is at c.in-Err-HistoryFull.field-0-is) c.undo-undone.ensures in
    told_same c.args.bench.now c.undo-undone.new.self (Undo c.args.event.now) (refusal_text refused.HistoryFull) refuses.1 (tells_no_line c.args.bench.now c.in-Some.id c.args.event.now x.0 stands refuses.0)

pub returns-clause-turns : goal.returns-clause-turns
returns-clause-turns g c =
    let refuses = fault_known c.args.bench.now c.undo-undone.new.self c.in-Some.id c.undo-undone.result c.in-Err-Memory.field-0 fault.Memory c.in-Err-Memory.is (rw c.in-Err-Memory.is at c.in-Err-Memory.field-0-is) c.undo-undone.ensures in
    told_same c.args.bench.now c.undo-undone.new.self (Undo c.args.event.now) (refusal_text refused.Memory) refuses.2 (tells_memory c.args.bench.now (Undo c.args.event.now) tt)
