use Rattle.std.proofs.Common.{◌≡◌, ◌<◌, ◌++◌, drop, length}
use Rattle.ic_name.specs.Names.{depth}
use Rattle.ic_names.specs.Tables.{name_at}
use Rattle.ic_names.proofs.rows.Rows.name.Given as goal

abbrev pub invariant-loop-behind : goal.invariant-loop-behind
invariant-loop-behind l = record {
  inside : l.at < length l.self.names;
  start : (name_at l.self.names l.at).start ≡ (name_at l.self.names l.place).start;
  behind : l.behind ≡ depth (name_at l.self.names l.at);
  all : length l.digits.items ≡ depth (name_at l.self.names l.place);
  digits : (name_at l.self.names l.at).digits ++ drop l.behind l.digits.items ≡ (name_at l.self.names l.place).digits;
}

abbrev pub decreases-loop-behind : goal.decreases-loop-behind
decreases-loop-behind l = l.behind
