use Rattle.std.proofs.Common.{◌≡◌, ◌<◌, length}
use Rattle.std.specs.Ordering.{nat_cmp}
use Rattle.std.specs.Cmp.Lexicographic.{slice_cmp}
use Rattle.ic_name.specs.Names.{depth}
use Rattle.ic_names.specs.Tables.{name_at}
use Rattle.ic_names.proofs.rows.Rows.digit_order.Given as goal

abbrev pub invariant-loop-left : goal.invariant-loop-left
invariant-loop-left l = record {
  left_in : l.left < length l.self.names;
  right_in : l.right < length l.self.names;
  depth : depth (name_at l.self.names l.left) ≡ depth (name_at l.self.names l.right);
  start : (name_at l.self.names l.left).start ≡ (name_at l.self.names l.right).start;
  order : slice_cmp nat_cmp (name_at l.self.names l.left).digits (name_at l.self.names l.right).digits ≡ slice_cmp nat_cmp (name_at l.self.names l.a).digits (name_at l.self.names l.b).digits;
}

abbrev pub decreases-loop-left : goal.decreases-loop-left
decreases-loop-left l = depth (name_at l.self.names l.left)
