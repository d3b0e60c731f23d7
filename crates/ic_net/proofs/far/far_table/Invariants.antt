use Rattle.std.proofs.Common.{◌≡◌, ◌≤◌, ◌-◌, drop}
use Rattle.ic_path.specs.FarEnds.{far}
use Rattle.ic_path.specs.Rings.{rings}
use Rattle.ic_link.specs.Links.{shape}
use Rattle.ic_net.specs.FarTables.{IsFarTable, HasFarEnds}
use Rattle.ic_net.proofs.far.far_table.Given as goal

abbrev pub invariant-loop-done : goal.invariant-loop-done
invariant-loop-done l = record {
  table : IsFarTable l.agents l.names l.table.ends.items;
  ends : HasFarEnds l.agents l.names l.table.ends.items (far shape (drop (l.count - l.done) l.links));
  rings : l.table.rings ≡ rings shape (drop (l.count - l.done) l.links);
  few : l.table.rings ≤ l.done;
}
