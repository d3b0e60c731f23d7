use Rattle.std.proofs.Common.{ap, refl}
use Rattle.ic_roster.specs.AgentSlots.{agent_at, agent_place}
use Rattle.ic_roster.specs.Slots.{HoldsOneMore}
use Rattle.ic_roster.proofs.Options.{at_none, at_some}
use Rattle.ic_roster.proofs.Slots.{emptied_by_remove, shown_left}
use Rattle.ic_roster.proofs.Indexes.{index_taken}
use Rattle.ic_roster.proofs.AgentFacts.{holds_agent, gone_from_slot}
use Rattle.ic_roster.proofs.agent_records.AgentRecords.remove.Goals as goal

pub returns-then-is_none-clause-gone : goal.returns-then-is_none-clause-gone
returns-then-is_none-clause-gone c = λ x i e. absurd (at_none c.get.result c.if-is_none.ensures c.get.ensures.absent x i e)

pub remove-agent-requires : goal.remove-agent-requires
remove-agent-requires c =
    let found = at_some c.get.result c.if-is_none.ensures c.get.ensures.found in
    holds_agent c.self.inside.records.slots c.args.self.now _ c.self.view_is found.1

-- the slot is emptied
emptied : (c : goal.After-take) → HoldsOneMore c.remove-agent.new.self.slots c.self.inside.records.slots c.args.id.slot c.remove-agent.result
emptied c = emptied_by_remove _ _ _ _ c.remove-agent.ensures.value c.remove-agent.ensures.updates

pub invariant_of-self : goal.invariant_of-self
invariant_of-self c = index_taken agent_place _ _ c.self.inside.slots c.take.new.self c.args.id.slot c.remove-agent.result c.self.invariant (emptied c) c.take.ensures.taken

pub returns-clause-gone : goal.returns-clause-gone
returns-clause-gone c = rw (← c.self.view_is) (λ x i e. gone_from_slot _ _ c.args.id.slot c.remove-agent.result (emptied c) x i (ap (λ d. d.slot) e))

pub returns-clause-left : goal.returns-clause-left
returns-clause-left c = rw (← c.self.view_is) (shown_left agent_at _ _ c.args.id.slot c.remove-agent.result (emptied c))

pub returns-clause-unchanged : goal.returns-clause-unchanged
returns-clause-unchanged c = λ none.
    (let found = at_some c.get.result c.if-is_none.ensures c.get.ensures.found in absurd (none _ found.1 refl))
