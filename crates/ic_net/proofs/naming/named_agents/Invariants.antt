use Rattle.std.proofs.Common.{◌≡◌, map, take}
use Rattle.ic_net.specs.Sheets.{listed_agent}
use Rattle.ic_net.specs.Placed.{listed_at}
use Rattle.ic_net.proofs.naming.named_agents.Given as goal

abbrev pub invariant-loop-agent : goal.invariant-loop-agent
invariant-loop-agent l = map listed_agent l.named.items ≡ map (listed_at l.names) (take l.agent-index l.agents)
