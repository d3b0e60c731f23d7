use Rattle.std.proofs.Common.{◌≡◌}
use Rattle.std.specs.Prelude.{slice_index, ◌==◌}
use Rattle.std.specs.Ordering.{nat_cmp}
use Rattle.std.specs.BTreeMap.{IsOrdered}
use Rattle.ic_net.specs.FarTables.{name_partner}
use Rattle.ic_net.specs.Nets.{frees_upto}
use Rattle.ic_net.proofs.tables.frees_of.Given as goal

abbrev pub invariant-loop-number : goal.invariant-loop-number
invariant-loop-number l = record {
  listed : l.frees.entries ≡ frees_upto (λ j. slice_index l.times j == 1) (name_partner l.agents l.ends) l.number;
  ordered : IsOrdered nat_cmp l.frees;
}
