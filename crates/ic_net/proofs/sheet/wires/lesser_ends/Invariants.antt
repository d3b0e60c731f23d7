use Rattle.std.proofs.Common.{◌≡◌, ◌≤◌, ◌+◌, drop, map}
use Rattle.std.specs.Prelude.{count_by}
use Rattle.ic_names.specs.Tables.{name_at}
use Rattle.ic_theory.specs.Listed.{ends_from}
use Rattle.ic_net.specs.Sheets.{is_lesser_end}
use Rattle.ic_net.specs.Placed.{port_at}
use Rattle.ic_net.proofs.sheet.wires.lesser_ends.Given as goal

abbrev pub invariant-loop-number : goal.invariant-loop-number
invariant-loop-number l = record {
  count : l.wires + count_by is_lesser_end (ends_from (name_at l.names l.name.place) l.number (map (port_at l.names) (drop l.number l.partners))) ≡ count_by is_lesser_end (ends_from (name_at l.names l.name.place) 0 (map (port_at l.names) l.partners));
  few : l.wires ≤ l.number;
}
