use Rattle.std.proofs.Common.{◌≡◌, ◌∙◌, refl, None}
use Rattle.ic_slots.specs.Slots.{slot_of}
use Rattle.ic_roster.specs.declared.agent_records.AgentRecord.{AgentRecord}
use Rattle.ic_roster.specs.Placed.{IsNewPlace}
use Rattle.ic_roster.specs.Slots.{HoldsOneMore}
use Rattle.ic_roster.specs.AgentSlots.{agent_at, agents_in, agent_place}
use Rattle.ic_roster.proofs.Slots.{filled_by_insert, shown_filled}
use Rattle.ic_roster.proofs.Indexes.{index_kept, index_entered}
use Rattle.ic_roster.proofs.AgentFacts.{lacks_place}
use Rattle.ic_roster.proofs.agent_records.AgentRecords.insert.Goals as goal

-- what is kept of the agent
abbrev made : goal.After-insert_reserved → AgentRecord
made c = record { name = c.args.name; kind = c.args.kind; serial = c.args.serial }

-- its slot is filled
filled : (c : goal.After-insert_reserved) → HoldsOneMore c.self.inside.records.slots c.insert_reserved.new.self.slots c.in_ok-slot.slot (made c)
filled c =
    let at : c.insert_reserved.result ≡ c.in_ok-slot.slot = c.insert_reserved.ensures.key ∙ c.in_ok-slot.ensures.slot in
    filled_by_insert _ c.reserve_slot.new.slab c.insert_reserved.new.self _ _ (made c) c.reserve_slot.ensures.kept at c.insert_reserved.ensures.was_vacant c.insert_reserved.ensures.updates

pub invariant_of-self-2 : goal.invariant_of-self-2
invariant_of-self-2 c =
    let fresh : IsNewPlace (agents_in c.self.inside.records.slots) c.args.name.place = rw (← c.self.view_is) at c.requires in
    let kept = index_kept agent_place _ c.self.inside.slots c.reserve.new.self c.self.invariant c.reserve.ensures.kept in
    let lacks : slot_of c.reserve.new.self c.args.name.place ≡ None = lacks_place _ c.reserve.new.self kept c.args.name.place fresh in
    index_entered agent_place _ _ c.reserve.new.self c.put.new.self c.in_ok-slot.slot (made c) kept (filled c) lacks c.put.ensures.put

pub returns-clause-entered : goal.returns-clause-entered
returns-clause-entered c = (refl, rw (← c.self.view_is) (shown_filled agent_at _ _ c.in_ok-slot.slot (made c) (filled c)))
