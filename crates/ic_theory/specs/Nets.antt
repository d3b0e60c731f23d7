-- Nets without links, and the net of a set of events.
use Rattle.std.specs.Prelude.{◌≡◌, ℕ, Bool, false, List, [], ◌∷◌, Option, Some, None, if◌then◌else◌, eqb, leb}
use Rattle.ic_name.specs.Names.{Name}
use Rattle.ic_name.specs.Kinds.{arity}
use Rattle.ic_name.specs.Events.{Event}
use Rattle.ic_name.specs.Same.{same_name}
use Rattle.ic_name.specs.declared.kinds.Kind.{Kind}
use Rattle.ic_name.specs.declared.rules.Profile.{Profile}
use Rattle.ic_name.specs.declared.ports.Port.{Port}
use Rattle.ic_name.specs.declared.ports.Port.TheVariants.{Of}
use Rattle.ic_name.specs.declared.ports.Port.TheVariants as port
use Rattle.ic_path.specs.Links.{degree}
use Rattle.ic_path.specs.FarEnds.{far}
use Rattle.ic_path.specs.Rings.{rings}
use Rattle.ic_theory.specs.Starts.{Start, net_shape}
use Rattle.ic_theory.specs.Sets.{agents, links, consumed_times}

-- the kind of each agent, the partner of each loose port, the number of rings, the profile
pub record Net : Type 0 where
  pub kind : Name → Option Kind
  pub partner : Port → Option Port
  pub rings : ℕ
  pub profile : Profile

-- two nets are the same: equal name by name and port by port
pub record IsSameNet (m n : Net) : Type 0 where
  pub kinds : (x : Name) → m.kind x ≡ n.kind x
  pub partners : (p : Port) → m.partner p ≡ n.partner p
  pub rings : m.rings ≡ n.rings
  pub profile : m.profile ≡ n.profile

-- the kind of the agent in the list
abbrev pub kind_among : Name → List (Name × Kind) → Option Kind
kind_among n [] = None
kind_among n (x ∷ xs) = if same_name n x.0 then Some x.1 else kind_among n xs

-- the kind of an agent that isn't consumed
abbrev pub kind_of : Start → List Event → Name → Option Kind
kind_of s es n = if eqb (consumed_times n es) 0 then kind_among n (agents s es) else None

-- an agent of the kind has a port of this number
abbrev pub has_port : Option Kind → ℕ → Bool
has_port None i = false
has_port (Some k) i = leb i (arity k)

-- the port is one of the agents', or a name that occurs once
abbrev pub is_loose : (Name → Option Kind) → (ℕ → Bool) → Port → Bool
is_loose kind once (Of n i) = has_port (kind n) i
is_loose kind once (port.Name j) = once j

-- the name occurs once
abbrev pub is_free : Start → List Event → ℕ → Bool
is_free s es j = eqb (degree net_shape (links s es) (port.Name j)) 1

-- the net of a set: the agents that aren't consumed, the far end of each loose port, and the rings
abbrev pub net_of : Start → List Event → Net
net_of s es = record {
  kind = kind_of s es;
  partner = λ p. if is_loose (kind_of s es) (is_free s es) p then Some (far net_shape (links s es) p) else None;
  rings = rings net_shape (links s es);
  profile = s.profile;
}
