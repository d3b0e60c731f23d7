-- Starts: what a text denotes.
use Rattle.std.specs.Prelude.{◌≡◌, ℕ, ◌+◌, ◌≤◌, ◌<◌, ◌&&◌, List, [], ◌∷◌, length, None, if◌then◌else◌, leb}
use Rattle.ic_name.specs.Names.{Name, start_name}
use Rattle.ic_name.specs.Kinds.{arity}
use Rattle.ic_name.specs.Same.{same_name, same_port}
use Rattle.ic_name.proofs.SameFacts.{same_port_true, same_port_self}
use Rattle.ic_name.specs.declared.kinds.Kind.{Kind}
use Rattle.ic_name.specs.declared.rules.Profile.{Profile}
use Rattle.ic_name.specs.declared.ports.Port.{Port}
use Rattle.ic_name.specs.declared.ports.Port.TheVariants.{Of}
use Rattle.ic_name.specs.declared.ports.Port.TheVariants as port
use Rattle.ic_path.specs.Links.{Shape, degree}
use Rattle.ic_theory.specs.Born.{Link, placed, named}

-- the kinds of the agents by number, the two ports of each link by place, the texts of the names by number, the profile
pub record Start : Type 0 where
  pub kinds : List Kind
  pub joins : List (Port × Port)
  pub names : List (List ℕ)
  pub profile : Profile

abbrev pub start_agents : Start → List (Name × Kind)
start_agents s = named start_name 0 s.kinds

abbrev pub start_links : Start → List Link
start_links s = placed None 0 s.joins

-- how the links of a net are read
abbrev pub net_shape : Shape Port Link
net_shape = record { left = λ l. l.a; right = λ l. l.b; same = same_port; same_true = same_port_true; same_self = same_port_self }

-- how many agents of the list have a port of this number and this name
abbrev pub port_times : Name → ℕ → List (Name × Kind) → ℕ
port_times n i [] = 0
port_times n i (x ∷ xs) = (if same_name n x.0 && leb i (arity x.1) then 1 else 0) + port_times n i xs

-- what a start keeps: each port of an agent has one link end, each name of the text one or two, and nothing else has any
pub record IsProper (s : Start) : Type 0 where
  pub agent_ports : (x : Name) (i : ℕ) → degree net_shape (start_links s) (Of x i) ≡ port_times x i (start_agents s)
  pub name_ends : (j : ℕ) → j < length s.names → 1 ≤ degree net_shape (start_links s) (port.Name j)
  pub few_ends : (j : ℕ) → degree net_shape (start_links s) (port.Name j) ≤ 2
  pub no_others : (j : ℕ) → length s.names ≤ j → degree net_shape (start_links s) (port.Name j) ≡ 0
