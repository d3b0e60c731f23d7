use Rattle.std.proofs.Common.{◌≡◌, ◌++◌, map}
use Rattle.std.specs.Prelude.{All}
use Rattle.ic_net.specs.Sheets.{listed_agent}
use Rattle.ic_net.specs.Placed.{HasAgentNames, IsAgentInside, listed_at}
use Rattle.ic_net.proofs.placing.place_agents.Given as goal

abbrev pub invariant-loop-name : goal.invariant-loop-name
invariant-loop-name l = record {
  shown : map (listed_at l.names) l.placed.items ++ map listed_agent l.name-iterator ≡ map listed_agent l.agents.entries;
  inside : All (IsAgentInside l.names) l.placed.items;
  left : All (HasAgentNames l.names) (map listed_agent l.name-iterator);
}
