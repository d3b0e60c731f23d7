use Rattle.std.proofs.Common.{List, map}
use Rattle.std.specs.Prelude.{All}
use Rattle.ic_name.specs.Names.{Name}
use Rattle.ic_net.specs.Sheets.{listed_agent}
use Rattle.ic_net.specs.Placed.{Stands, HasAgentNames}
use Rattle.ic_net.proofs.placing.enter_agents.Given as goal

-- once the names of the agents that are left are entered, too, those of all are
abbrev pub invariant-loop-name : goal.invariant-loop-name
invariant-loop-name l = record {
  entered : (ns : List Name) → ((n : Name) → Stands l.names n → Stands ns n) → All (HasAgentNames ns) (map listed_agent l.name-iterator) → All (HasAgentNames ns) (map listed_agent l.agents.entries);
  kept : (n : Name) → Stands l.fn.names n → Stands l.names n;
}
