-- What the first line of a printed text counts.
use Rattle.std.specs.Prelude.{◌≡◌, Some}
use Rattle.std.specs.declared.cmp.Ordering.TheVariants.{Less}
use Rattle.ic_name.specs.declared.ports.Port.{Port}
use Rattle.ic_theory.specs.Listed.{ListedNet, port_cmp, shown}

-- the two ports are the ends of a wire of the net, the lesser one first
abbrev pub IsWireOf : ListedNet → Port × Port → Type 0
IsWireOf l x = ((shown l).partner x.0 ≡ Some x.1) × (port_cmp x.0 x.1 ≡ Less)
