use Rattle.std.proofs.Common.{◌↔◌, drop, map}
use Rattle.ic_roster.specs.declared.agent_records.PlacedAgent.{PlacedAgent}
use Rattle.ic_roster.specs.Placed.{child_in}
use Rattle.ic_roster.proofs.GoneAgents.{IsLeft}
use Rattle.ic_roster.proofs.agent_records.AgentRecords.remove_children.Given as goal

-- those that are to be left in the end are the same throughout
abbrev pub invariant-loop-slot : goal.invariant-loop-slot
invariant-loop-slot l = (m : PlacedAgent) → IsLeft l.self (map (child_in l.line) (drop l.slot-index l.slots)) m ↔ IsLeft l.initial.self (map (child_in l.line) l.slots) m
