use Rattle.std.proofs.Common.{ℕ, List}
use Rattle.std.specs.Prelude.{All}
use Rattle.ic_name.specs.Names.{Name}
use Rattle.ic_name.specs.declared.ports.Port.{Port}
use Rattle.ic_net.specs.Placed.{Stands, HasPortName}
use Rattle.ic_net.proofs.placing.enter_frees.Given as goal

-- once the names of the partners that are left are entered, too, those of all are
abbrev pub invariant-loop-partner : goal.invariant-loop-partner
invariant-loop-partner l = record {
  entered : (ns : List Name) → ((n : Name) → Stands l.names n → Stands ns n) → All (λ (f : ℕ × Port). HasPortName ns f.1) l.partner-iterator → All (λ (f : ℕ × Port). HasPortName ns f.1) l.frees.entries;
  kept : (n : Name) → Stands l.fn.names n → Stands l.names n;
}
