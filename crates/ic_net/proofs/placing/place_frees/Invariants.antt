use Rattle.std.proofs.Common.{◌≡◌, ◌++◌, ℕ, map}
use Rattle.std.specs.Prelude.{All}
use Rattle.ic_name.specs.declared.ports.Port.{Port}
use Rattle.ic_net.specs.declared.sheet.placed.PlacedPort.{PlacedPort}
use Rattle.ic_net.specs.Placed.{HasPortName, IsPortInside, free_at}
use Rattle.ic_net.proofs.placing.place_frees.Given as goal

abbrev pub invariant-loop-number : goal.invariant-loop-number
invariant-loop-number l = record {
  shown : map (free_at l.names) l.placed.items ++ l.number-iterator ≡ l.frees.entries;
  inside : All (λ (f : ℕ × PlacedPort). IsPortInside l.names f.1) l.placed.items;
  left : All (λ (f : ℕ × Port). HasPortName l.names f.1) l.number-iterator;
}
