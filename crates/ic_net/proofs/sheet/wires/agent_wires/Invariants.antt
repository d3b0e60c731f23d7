use Rattle.std.proofs.Common.{◌≡◌, ◌≤◌, ◌*◌, map, take}
use Rattle.std.specs.Prelude.{count_by}
use Rattle.std.specs.List.{flat_map}
use Rattle.ic_net.specs.Sheets.{agent_ends, is_lesser_end}
use Rattle.ic_net.specs.Placed.{listed_at}
use Rattle.ic_net.proofs.sheet.wires.agent_wires.Given as goal

abbrev pub invariant-loop-agent : goal.invariant-loop-agent
invariant-loop-agent l = record {
  count : l.wires ≡ count_by is_lesser_end (flat_map agent_ends (map (listed_at l.names) (take l.agent-index l.agents)));
  few : l.wires ≤ 3 * l.agent-index;
}
