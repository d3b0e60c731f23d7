use Rattle.std.proofs.Common.{subst}
use Rattle.ic_name.specs.Names.{Name}
use Rattle.ic_name.specs.declared.lines.Reply.TheVariants as reply
use Rattle.ic_roster.specs.Rosters.{IsNewName}
use Rattle.ic_journal.specs.Calls.{Fires}
use Rattle.ic_journal.specs.declared.faults.FireFault.TheVariants as fault
use Rattle.ic_command.specs.declared.command.Command.TheVariants.{Fire}
use Rattle.ic_answer.specs.declared.refused.Refused.TheVariants as refused
use Rattle.ic_answer.specs.Texts.{refusal_text}
use Rattle.ic_answer.proofs.TurnSteps.{told, told_same, tells_memory, stays_for_memory}
use Rattle.ic_journal.proofs.BenchSteps.{fault_known}
use Rattle.ic_answer.proofs.FiringReplies.{lead_unknown, other_unknown, proposed_found, fires_not_active, tells_no_line}
use Rattle.ic_answer.proofs.InactiveEvents.{only_inactive}
use Rattle.ic_answer.proofs.changing.refuse_inactive.Goals as goal

pub returns-in_default-clause-turns : goal.returns-in_default-clause-turns
returns-in_default-clause-turns g c =
    told c.args.bench.now (Fire c.args.event.now) (refusal_text refused.NotActive) (lead_unknown c.args.bench.now c.args.event.now c.lawful.ensures (subst (λ (n : Name). IsNewName c.args.bench.now.agents n) c.lead.ensures c.in_default.ensures.absent))

pub returns-in_default-agent-clause-turns : goal.returns-in_default-agent-clause-turns
returns-in_default-agent-clause-turns g c =
    told c.args.bench.now (Fire c.args.event.now) (refusal_text refused.NotActive) (other_unknown c.args.bench.now c.args.event.now c.lawful.ensures (subst (λ (n : Name). IsNewName c.args.bench.now.agents n) c.other.ensures c.in_default-agent.ensures.absent))

pub returns-in_default-propose-clause-turns : goal.returns-in_default-propose-clause-turns
returns-in_default-propose-clause-turns g c = told c.args.bench.now (Fire c.args.event.now) (refusal_text refused.Memory) (tells_memory c.args.bench.now (Fire c.args.event.now) tt)

pub returns-in-Err-NotActive-clause-turns : goal.returns-in-Err-NotActive-clause-turns
returns-in-Err-NotActive-clause-turns g c =
    let is = proposed_found c.args.bench.now c.args.event.now c.in-Ok.proposal c.in-Some.lead c.in-Some-agent.other c.lead.result.now c.other.result.now c.in-Some.ensures.found.0 c.in-Some-agent.ensures.found.0 c.lawful.ensures c.lawful-2.ensures c.lead.ensures c.other.ensures c.in-Some.ensures.found.1 c.in-Some-agent.ensures.found.1 c.in-Ok.ensures in
    let refuses = fault_known (λ r. Fires c.args.bench.now c.in-Ok.proposal r c.fire-fired.new.self) c.fire-fired.result c.in-Err-NotActive.field-0 fault.NotActive c.in-Err-NotActive.is (rw c.in-Err-NotActive.is at c.in-Err-NotActive.field-0-is) c.fire-fired.ensures in
    fires_not_active c.args.bench.now c.fire-fired.new.self c.args.event.now c.in-Ok.proposal is c.lawful-3.ensures refuses.0

pub returns-in-Err-HistoryFull-clause-turns : goal.returns-in-Err-HistoryFull-clause-turns
returns-in-Err-HistoryFull-clause-turns g c =
    let is = proposed_found c.args.bench.now c.args.event.now c.in-Ok.proposal c.in-Some.lead c.in-Some-agent.other c.lead.result.now c.other.result.now c.in-Some.ensures.found.0 c.in-Some-agent.ensures.found.0 c.lawful.ensures c.lawful-2.ensures c.lead.ensures c.other.ensures c.in-Some.ensures.found.1 c.in-Some-agent.ensures.found.1 c.in-Ok.ensures in
    let refuses = fault_known (λ r. Fires c.args.bench.now c.in-Ok.proposal r c.fire-fired.new.self) c.fire-fired.result c.in-Err-HistoryFull.field-0 (fault.HistoryFull c.in-Err-HistoryFull.field-0-0) c.in-Err-HistoryFull.is (rw c.in-Err-HistoryFull.is at c.in-Err-HistoryFull.field-0-is) c.fire-fired.ensures in
    told_same c.args.bench.now c.fire-fired.new.self (Fire c.args.event.now) (refusal_text refused.HistoryFull) refuses.2 (tells_no_line c.args.bench.now c.args.event.now c.in-Ok.proposal is refuses.0)

pub returns-clause-turns : goal.returns-clause-turns
returns-clause-turns g c =
    let refuses = fault_known (λ r. Fires c.args.bench.now c.in-Ok.proposal r c.fire-fired.new.self) c.fire-fired.result c.in-Err-Memory.field-0 (fault.Memory c.in-Err-Memory.field-0-0) c.in-Err-Memory.is (rw c.in-Err-Memory.is at c.in-Err-Memory.field-0-is) c.fire-fired.ensures in
    stays_for_memory c.args.bench.now c.fire-fired.new.self (Fire c.args.event.now) tt refuses.2

pub unreachable-requires : goal.unreachable-requires
unreachable-requires g c =
    let is = proposed_found c.args.bench.now c.args.event.now c.in-Ok.proposal c.in-Some.lead c.in-Some-agent.other c.lead.result.now c.other.result.now c.in-Some.ensures.found.0 c.in-Some-agent.ensures.found.0 c.lawful.ensures c.lawful-2.ensures c.lead.ensures c.other.ensures c.in-Some.ensures.found.1 c.in-Some-agent.ensures.found.1 c.in-Ok.ensures in
    only_inactive c.args.bench.now c.fire-fired.new.self c.args.event.now c.in-Ok.proposal reply.Fired c.lawful.ensures c.requires is c.in-Ok-fired.ensures.0 (λ e. cc)

pub unreachable-requires-in-Err-Deep : goal.unreachable-requires-in-Err-Deep
unreachable-requires-in-Err-Deep g c =
    let is = proposed_found c.args.bench.now c.args.event.now c.in-Ok.proposal c.in-Some.lead c.in-Some-agent.other c.lead.result.now c.other.result.now c.in-Some.ensures.found.0 c.in-Some-agent.ensures.found.0 c.lawful.ensures c.lawful-2.ensures c.lead.ensures c.other.ensures c.in-Some.ensures.found.1 c.in-Some-agent.ensures.found.1 c.in-Ok.ensures in
    let refuses = fault_known (λ r. Fires c.args.bench.now c.in-Ok.proposal r c.fire-fired.new.self) c.fire-fired.result c.in-Err-Deep.field-0 fault.Deep c.in-Err-Deep.is (rw c.in-Err-Deep.is at c.in-Err-Deep.field-0-is) c.fire-fired.ensures in
    only_inactive c.args.bench.now c.fire-fired.new.self c.args.event.now c.in-Ok.proposal reply.Deep c.lawful.ensures c.requires is refuses.0 (λ e. cc)

pub unreachable-requires-in-Err-Full : goal.unreachable-requires-in-Err-Full
unreachable-requires-in-Err-Full g c =
    let is = proposed_found c.args.bench.now c.args.event.now c.in-Ok.proposal c.in-Some.lead c.in-Some-agent.other c.lead.result.now c.other.result.now c.in-Some.ensures.found.0 c.in-Some-agent.ensures.found.0 c.lawful.ensures c.lawful-2.ensures c.lead.ensures c.other.ensures c.in-Some.ensures.found.1 c.in-Some-agent.ensures.found.1 c.in-Ok.ensures in
    let refuses = fault_known (λ r. Fires c.args.bench.now c.in-Ok.proposal r c.fire-fired.new.self) c.fire-fired.result c.in-Err-Full.field-0 fault.Full c.in-Err-Full.is (rw c.in-Err-Full.is at c.in-Err-Full.field-0-is) c.fire-fired.ensures in
    only_inactive c.args.bench.now c.fire-fired.new.self c.args.event.now c.in-Ok.proposal reply.Full c.lawful.ensures c.requires is refuses.0 (λ e. cc)
