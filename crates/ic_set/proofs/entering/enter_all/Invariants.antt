use Rattle.std.proofs.Common.{◌≡◌, ◌+◌, ◌≤◌, length, take}
use Rattle.ic_set.specs.Entering.{agents_in, Enters}
use Rattle.ic_set.proofs.entering.enter_all.Given as goal

abbrev pub invariant-loop-agent : goal.invariant-loop-agent
invariant-loop-agent l = record {
  entered : Enters l.initial.roster.agents (agents_in l.initial.roster.names (take l.agent-index l.entering)) l.serial l.ids.items l.roster.agents;
  names : l.roster.names ≡ l.initial.roster.names;
  events : l.roster.events ≡ l.initial.roster.events;
  room : length l.ids.items + length l.entering ≤ l.ids.capacity + l.agent-index;
}
