use Rattle.std.proofs.Common.{◌≡◌, ◌≤◌, ◌+◌, ◌*◌, length, map}
use Rattle.std.specs.Prelude.{count_by}
use Rattle.std.specs.List.{flat_map}
use Rattle.ic_net.specs.Sheets.{listed_agent, agent_ends, is_lesser_end}
use Rattle.ic_net.proofs.wires.agent_wires.Given as goal

abbrev pub invariant-loop-name : goal.invariant-loop-name
invariant-loop-name l = record {
  count : l.wires + count_by is_lesser_end (flat_map agent_ends (map listed_agent l.name-iterator)) ≡ count_by is_lesser_end (flat_map agent_ends (map listed_agent l.agents.entries));
  few : l.wires + 3 * length l.name-iterator ≤ 3 * length l.agents.entries;
}
