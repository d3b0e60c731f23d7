use Rattle.std.proofs.Common.{◌↔◌}
use Rattle.ic_roster.specs.declared.agent_records.PlacedAgent.{PlacedAgent}
use Rattle.ic_roster.specs.EventSlots.{event_lead}
use Rattle.ic_roster.proofs.ClearedEvents.{HasOnly, IsSpared}
use Rattle.ic_roster.proofs.event_records.EventRecords.clear.Given as goal

-- the index has only the entries that are still to come, and the agents that are to be left in the end are the same throughout
abbrev pub invariant-loop-event : goal.invariant-loop-event
invariant-loop-event l = record {
  leads : HasOnly event_lead l.event-iterator l.self-inside.1.1.0;
  agents : (m : PlacedAgent) → IsSpared l.agents l.event-iterator m ↔ IsSpared l.initial.agents l.initial.event-iterator m;
}
