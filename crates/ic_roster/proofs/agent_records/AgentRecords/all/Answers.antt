use Rattle.std.proofs.Common.{◌≡◌, [], ◌∷◌, ◌++◌, map, Some, None, append-nil, sym, ap, ◌∙◌}
use Rattle.ic_slots.specs.Slots.{slot_of}
use Rattle.ic_roster.specs.declared.agent_records.PlacedAgent.{PlacedAgent}
use Rattle.ic_roster.specs.AgentSlots.{agent_at, agent_place}
use Rattle.ic_roster.proofs.Indexes.{indexed}
use Rattle.ic_roster.proofs.Entries.{AreHeld, all_held, first_held, others_held, listed_more}
use Rattle.ic_roster.proofs.agent_records.AgentRecords.all.Goals as goal

pub loop-agent-init : goal.loop-agent-init
loop-agent-init c =
    let left = c.into_iter-agent-iterator.ensures.into_iter_gives ∙ c.iter-agent-items.ensures.rest in
    (ap (λ xs. xs ++ map agent_at c.into_iter-agent-iterator.result) c.in_ok-agents.ensures.items, rw left (all_held c.self.inside.records.slots))

pub unreachable-requires : goal.unreachable-requires
unreachable-requires c =
    let held : AreHeld c.self.inside.records.slots ((c.in-Some.field-0-0, c.in-Some.agent.now) ∷ c.next.new.self) = rw c.in-Some.ensures.steps at c.loop-agent.invariant.1 in
    let here = first_held c.self.inside.records.slots _ _ held in
    let found : slot_of c.self.inside.slots c.in-Some.agent.now.name.place ≡ Some c.in-Some.field-0-0 = indexed agent_place _ c.self.inside.slots c.self.invariant _ c.in-Some.agent.now here in
    let none : None ≡ Some c.in-Some.field-0-0 = sym c.in_default.is ∙ c.get.ensures ∙ found in
    cc

pub loop-agent-preserved : goal.loop-agent-preserved
loop-agent-preserved c =
    let held : AreHeld c.self.inside.records.slots ((c.in-Some.field-0-0, c.in-Some.agent.now) ∷ c.next.new.self) = rw c.in-Some.ensures.steps at c.loop-agent.invariant.1 in
    let here = first_held c.self.inside.records.slots _ _ held in
    let found : slot_of c.self.inside.slots c.in-Some.agent.now.name.place ≡ Some c.in-Some.field-0-0 = indexed agent_place _ c.self.inside.slots c.self.invariant _ c.in-Some.agent.now here in
    let both : Some c.in-Some-get.slot ≡ Some c.in-Some.field-0-0 = sym c.in-Some-get.is ∙ c.get.ensures ∙ found in
    let same : c.in-Some-get.slot ≡ c.in-Some.field-0-0 = cc in
    let agent : PlacedAgent = record { id = record { slot = c.in-Some-get.slot; serial = c.in-Some.agent.now.serial }; name = c.in-Some.agent.now.name; kind = c.in-Some.agent.now.kind } in
    let shown : agent ≡ agent_at (c.in-Some.field-0-0, c.in-Some.agent.now) = ap (λ k. agent_at (k, c.in-Some.agent.now)) same in
    let all : c.loop-agent.agents.items ++ map agent_at ((c.in-Some.field-0-0, c.in-Some.agent.now) ∷ c.next.new.self) ≡ map agent_at c.into_iter-agent-iterator.result = rw c.in-Some.ensures.steps at c.loop-agent.invariant.0 in
    (rw c.in_ok-push.ensures.items (listed_more c.loop-agent.agents.items agent _ _ _ all shown), others_held c.self.inside.records.slots _ _ held)

pub returns : goal.returns
returns c =
    let left : c.loop-agent.agent-iterator ≡ [] = c.in-None.ensures.steps.0 in
    sym (append-nil c.loop-agent.agents.items) ∙ ap (λ es. c.loop-agent.agents.items ++ map agent_at es) (sym left) ∙ c.loop-agent.invariant.0
    ∙ ap (map agent_at) (c.into_iter-agent-iterator.ensures.into_iter_gives ∙ c.iter-agent-items.ensures.rest) ∙ c.self.view_is
