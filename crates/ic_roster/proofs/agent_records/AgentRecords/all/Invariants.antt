use Rattle.std.proofs.Common.{◌≡◌, ◌++◌, map}
use Rattle.ic_roster.specs.AgentSlots.{agent_at}
use Rattle.ic_roster.proofs.Entries.{AreHeld}
use Rattle.ic_roster.proofs.agent_records.AgentRecords.all.Given as goal

-- the agents so far and those of the entries that are left are all agents
abbrev pub invariant-loop-agent : goal.invariant-loop-agent
invariant-loop-agent l =
    (l.agents.items ++ map agent_at l.agent-iterator ≡ map agent_at l.initial.agent-iterator) ×
    AreHeld l.self-inside.records.slots l.agent-iterator
