use Rattle.std.proofs.Common.{◌≡◌, ◌≤◌, ◌+◌, drop}
use Rattle.std.specs.Prelude.{count_by}
use Rattle.ic_theory.specs.Listed.{ends_from}
use Rattle.ic_net.specs.Sheets.{is_lesser_end}
use Rattle.ic_net.proofs.wires.lesser_ends.Given as goal

abbrev pub invariant-loop-number : goal.invariant-loop-number
invariant-loop-number l = record {
  count : l.wires + count_by is_lesser_end (ends_from l.name l.number (drop l.number l.partners)) ≡ count_by is_lesser_end (ends_from l.name 0 l.partners);
  few : l.wires ≤ l.number;
}
