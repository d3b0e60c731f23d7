use Rattle.std.proofs.Common.{sym}
use Rattle.ic_roster.proofs.AgentFacts.{is_under, none_under, other_under}
use Rattle.ic_roster.proofs.agent_records.AgentRecords.get.Goals as goal

pub returns-in_err-agent-clause-absent : goal.returns-in_err-agent-clause-absent
returns-in_err-agent-clause-absent c = rw (c.from_residual.ensures, ← c.self.view_is) (none_under _ c.args.id (sym c.in_err-agent.ensures))

pub returns-then-agent-id-clause-absent : goal.returns-then-agent-id-clause-absent
returns-then-agent-id-clause-absent c = rw (← c.self.view_is) (other_under _ c.args.id _ (sym c.in_ok-agent.ensures) c.if-agent-id.true)

pub returns-clause-found : goal.returns-clause-found
returns-clause-found c = rw (← c.self.view_is) (is_under _ c.args.id _ (sym c.in_ok-agent.ensures) c.if-agent-id.false)
