use Rattle.std.proofs.Common.{◌≡◌, length}
use Rattle.std.specs.BTreeMap.{IsOrdered}
use Rattle.std.specs.Ordering.{nat_cmp}
use Rattle.ic_name.specs.Names.{Name, name_cmp}
use Rattle.ic_name.specs.declared.ports.Port.{Port}
use Rattle.ic_net.specs.Tables.{kind_in, found_at, settled}
use Rattle.ic_net.proofs.entries.put_partners.Given as goal

abbrev pub invariant-loop-port : goal.invariant-loop-port
invariant-loop-port l = record {
  kinds : (n : Name) → kind_in l.agents.entries n ≡ kind_in l.fn.agents.entries n;
  partners : (x : Port) → settled x (found_at l.agents.entries l.frees.entries x) l.port-iterator.rest.items ≡ settled x (found_at l.fn.agents.entries l.fn.frees.entries x) l.fn.writes.items;
  agents : length l.agents.entries ≡ length l.fn.agents.entries;
  frees : length l.frees.entries ≡ length l.fn.frees.entries;
  names : IsOrdered name_cmp l.agents;
  numbers : IsOrdered nat_cmp l.frees;
}
