use Rattle.std.proofs.Common.{◌≡◌, ◌≤◌, ◌+◌, length, map}
use Rattle.std.specs.Prelude.{count_by}
use Rattle.ic_net.specs.Sheets.{name_end, is_lesser_end}
use Rattle.ic_net.proofs.wires.name_wires.Given as goal

abbrev pub invariant-loop-number : goal.invariant-loop-number
invariant-loop-number l = record {
  count : l.wires + count_by is_lesser_end (map name_end l.number-iterator) ≡ count_by is_lesser_end (map name_end l.frees.entries);
  few : l.wires + length l.number-iterator ≤ length l.frees.entries;
}
