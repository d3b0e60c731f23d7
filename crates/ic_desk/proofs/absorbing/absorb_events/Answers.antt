use Rattle.std.proofs.Common.{subst}
use Rattle.ic_undo.specs.Absorbing.{Absorbs, AbsorbsNone}
use Rattle.ic_undo.specs.declared.faults.AbsorbFault.TheVariants as fault
use Rattle.ic_answer.proofs.ChangedEvents.{changed_at_error}
use Rattle.ic_desk.proofs.AbsorbTurns.{absorb_fault_known, absorbs_or_refused, never_or_refused, deep_turns, full_turns, too_long_turns, absorb_wants}
use Rattle.ic_desk.proofs.ChangedBenches.{absorbing_changes}
use Rattle.ic_desk.proofs.absorbing.absorb_events.Goals as goal

pub returns-in-Ok-clause-turns : goal.returns-in-Ok-clause-turns
returns-in-Ok-clause-turns g c =
    let absorbs = subst (λ ns. Absorbs c.args.bench.now ns c.in-Ok.count c.absorb-absorbed.new.bench) c.deref.ensures.value c.in-Ok.ensures.absorbed in
    absorbs_or_refused c.args.bench.now c.absorb-absorbed.new.bench c.lawful.ensures c.lawful-2.ensures c.args.marks.now c.args.names.now
    c.in-Ok.count c.absorbed_text.result c.text_or_refused.result absorbs c.absorbed_text.ensures c.text_or_refused.ensures.text c.text_or_refused.ensures.refused

pub returns-in-Ok-clause-changed : goal.returns-in-Ok-clause-changed
returns-in-Ok-clause-changed g c =
    changed_at_error c.args.bench.now c.absorb-absorbed.new.bench c.text_or_refused.result
    (absorbing_changes c.args.bench.now c.absorb-absorbed.new.bench c.deref.result.now c.in-Ok.count c.in-Ok.ensures.absorbed) c.text_or_refused.ensures.error

pub returns-in-Err-NeverActive-clause-turns : goal.returns-in-Err-NeverActive-clause-turns
returns-in-Err-NeverActive-clause-turns g c =
    let why = fault.NeverActive c.in-Err-NeverActive.name c.in-Err-NeverActive.obstacle in
    let refuses = subst (λ ns. AbsorbsNone c.args.bench.now ns why c.absorb-absorbed.new.bench) c.deref.ensures.value
    (absorb_fault_known c.args.bench.now c.deref.result.now c.absorb-absorbed.new.bench c.absorb-absorbed.result c.in-Err-NeverActive.field-0 why
    c.in-Err-NeverActive.is c.in-Err-NeverActive.field-0-is c.absorb-absorbed.ensures.fault) in
    never_or_refused c.args.bench.now c.absorb-absorbed.new.bench c.lawful.ensures c.lawful-2.ensures c.args.marks.now c.args.names.now
    c.in-Err-NeverActive.name c.in-Err-NeverActive.obstacle c.never_text.result _ refuses c.never_text.ensures c.hindered_or_memory.ensures.text c.hindered_or_memory.ensures.memory

pub returns-in-Err-Deep-clause-turns : goal.returns-in-Err-Deep-clause-turns
returns-in-Err-Deep-clause-turns g c =
    let refuses = subst (λ ns. AbsorbsNone c.args.bench.now ns fault.Deep c.absorb-absorbed.new.bench) c.deref.ensures.value
    (absorb_fault_known c.args.bench.now c.deref.result.now c.absorb-absorbed.new.bench c.absorb-absorbed.result c.in-Err-Deep.field-0 fault.Deep c.in-Err-Deep.is c.in-Err-Deep.field-0-is c.absorb-absorbed.ensures.fault) in
    deep_turns c.args.bench.now c.absorb-absorbed.new.bench c.lawful.ensures c.lawful-2.ensures c.args.marks.now c.args.names.now refuses

pub returns-in-Err-Full-clause-turns : goal.returns-in-Err-Full-clause-turns
returns-in-Err-Full-clause-turns g c =
    let refuses = subst (λ ns. AbsorbsNone c.args.bench.now ns fault.Full c.absorb-absorbed.new.bench) c.deref.ensures.value
    (absorb_fault_known c.args.bench.now c.deref.result.now c.absorb-absorbed.new.bench c.absorb-absorbed.result c.in-Err-Full.field-0 fault.Full c.in-Err-Full.is c.in-Err-Full.field-0-is c.absorb-absorbed.ensures.fault) in
    full_turns c.args.bench.now c.absorb-absorbed.new.bench c.lawful.ensures c.lawful-2.ensures c.args.marks.now c.args.names.now refuses

pub returns-in-Err-HistoryFull-clause-turns : goal.returns-in-Err-HistoryFull-clause-turns
returns-in-Err-HistoryFull-clause-turns g c =
    let refuses = subst (λ ns. AbsorbsNone c.args.bench.now ns fault.HistoryFull c.absorb-absorbed.new.bench) c.deref.ensures.value
    (absorb_fault_known c.args.bench.now c.deref.result.now c.absorb-absorbed.new.bench c.absorb-absorbed.result c.in-Err-HistoryFull.field-0 fault.HistoryFull c.in-Err-HistoryFull.is c.in-Err-HistoryFull.field-0-is c.absorb-absorbed.ensures.fault) in
    too_long_turns c.args.bench.now c.absorb-absorbed.new.bench c.lawful.ensures c.lawful-2.ensures c.args.marks.now c.args.names.now refuses

pub returns-in-Err-Memory-clause-turns : goal.returns-in-Err-Memory-clause-turns
returns-in-Err-Memory-clause-turns g c =
    let refuses = subst (λ ns. AbsorbsNone c.args.bench.now ns fault.Memory c.absorb-absorbed.new.bench) c.deref.ensures.value
    (absorb_fault_known c.args.bench.now c.deref.result.now c.absorb-absorbed.new.bench c.absorb-absorbed.result c.in-Err-Memory.field-0 fault.Memory c.in-Err-Memory.is c.in-Err-Memory.field-0-is c.absorb-absorbed.ensures.fault) in
    absorb_wants c.args.bench.now c.absorb-absorbed.new.bench c.lawful.ensures c.lawful-2.ensures c.args.marks.now c.args.names.now refuses
