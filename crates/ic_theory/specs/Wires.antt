-- Loose ports and wires of a set of events, read off trails.
use Rattle.std.specs.Prelude.{◌≡◌, ◌≤◌, List, ◌∷◌}
use Rattle.ic_name.specs.Kinds.{arity}
use Rattle.ic_name.specs.Events.{Event}
use Rattle.ic_name.specs.declared.kinds.Kind.{Kind}
use Rattle.ic_name.specs.declared.ports.Port.{Port}
use Rattle.ic_name.specs.declared.ports.Port.TheVariants.{Of}
use Rattle.ic_name.specs.declared.ports.Port.TheVariants as port
use Rattle.ic_path.specs.Trails.{Trail}
use Rattle.ic_path.specs.Orders.{IsIn}
use Rattle.ic_path.specs.Links.{degree}
use Rattle.ic_theory.specs.Born.{Link}
use Rattle.ic_theory.specs.Starts.{Start, net_shape}
use Rattle.ic_theory.specs.Sets.{agents, links, consumed_times}

-- a port of an agent that isn't consumed, or a name that occurs once
abbrev pub IsLoose : Start → List Event → Port → Type 0
IsLoose s es (Of n i) = (k : Kind) × IsIn (n, k) (agents s es) × (i ≤ arity k) × (consumed_times n es ≡ 0)
IsLoose s es (port.Name j) = degree net_shape (links s es) (port.Name j) ≡ 1

-- a trail of at least one link between two ports
pub record Path (ls : List Link) (p q : Port) : Type 0 where
  pub first : Link
  pub others : List Link
  pub left_over : List Link
  pub trail : Trail net_shape ls p (first ∷ others) q left_over

-- a wire: two loose ports that a trail joins
pub record IsWire (s : Start) (es : List Event) (p q : Port) : Type 0 where
  pub path : Path (links s es) p q
  pub from_loose : IsLoose s es p
  pub to_loose : IsLoose s es q
