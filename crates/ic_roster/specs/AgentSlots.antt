-- How agents are kept: records under slots, and an index of the slots by the places of their names.
use Rattle.std.specs.Prelude.{ℕ, List, Option}
use Rattle.ic_roster.specs.declared.agent_records.AgentRecord.{AgentRecord}
use Rattle.ic_roster.specs.declared.agent_records.PlacedAgent.{PlacedAgent}
use Rattle.ic_roster.specs.Slots.{shown}

-- the agent of the record under a slot
abbrev pub agent_at : ℕ × AgentRecord → PlacedAgent
agent_at p = record { id = record { slot = p.0; serial = p.1.serial }; name = p.1.name; kind = p.1.kind }

-- the agents, by rising slot
abbrev pub agents_in : List (Option AgentRecord) → List PlacedAgent
agents_in slots = shown agent_at slots

-- the place of the name of a record
abbrev pub agent_place : AgentRecord → ℕ
agent_place a = a.name.place
