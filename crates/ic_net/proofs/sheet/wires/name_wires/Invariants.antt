use Rattle.std.proofs.Common.{◌≡◌, ◌≤◌, List, map, take}
use Rattle.std.specs.Prelude.{count_by}
use Rattle.ic_name.specs.Names.{Name}
use Rattle.ic_net.specs.Sheets.{name_end, is_lesser_end}
use Rattle.ic_net.specs.Placed.{free_at}
use Rattle.ic_net.proofs.sheet.wires.name_wires.Given as goal

abbrev pub invariant-loop-number : goal.invariant-loop-number
invariant-loop-number l = record {
  count : (ns : List Name) → l.wires ≡ count_by is_lesser_end (map name_end (map (free_at ns) (take l.number-index l.frees)));
  few : l.wires ≤ l.number-index;
}
