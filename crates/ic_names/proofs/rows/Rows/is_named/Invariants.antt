use Rattle.std.proofs.Common.{◌≡◌, ◌<◌, ◌≤◌, ◌↔◌, length}
use Rattle.ic_name.specs.Names.{depth}
use Rattle.ic_names.specs.Tables.{name_at}
use Rattle.ic_names.proofs.Fronted.{front_name}
use Rattle.ic_names.proofs.rows.Rows.is_named.Given as goal

abbrev pub invariant-loop-behind : goal.invariant-loop-behind
invariant-loop-behind l = record {
  inside : l.at < length l.self.names;
  start : (name_at l.self.names l.at).start ≡ (name_at l.self.names l.place).start;
  behind : l.behind ≡ depth (name_at l.self.names l.at);
  high : l.behind ≤ depth l.name;
  same : (name_at l.self.names l.place ≡ l.name) ↔ (name_at l.self.names l.at ≡ front_name l.name l.behind);
}

abbrev pub decreases-loop-behind : goal.decreases-loop-behind
decreases-loop-behind l = l.behind
