-- What is found in a net's tables, and what writes leave in them.
use Rattle.std.specs.Prelude.{◌≡◌, ℕ, ◌+◌, List, [], ◌∷◌, length, Option, Some, None, option_map, slice_get, if◌then◌else◌}
use Rattle.std.specs.BTreeMap.{is_at}
use Rattle.std.specs.Map.{lookup}
use Rattle.std.specs.Ordering.{nat_cmp}
use Rattle.ic_name.specs.Names.{Name, name_cmp}
use Rattle.ic_name.specs.Kinds.{arity}
use Rattle.ic_name.specs.Same.{same_port}
use Rattle.ic_name.specs.declared.kinds.Kind.{Kind}
use Rattle.ic_name.specs.declared.ports.Port.{Port}
use Rattle.ic_name.specs.declared.ports.Port.TheVariants as port
use Rattle.ic_net.specs.declared.agents.NetAgent.{NetAgent}
use Rattle.ic_net.specs.Sheets.{partner_list}

-- the agent that a table has under a name
abbrev pub agent_in : List (Name × NetAgent) → Name → Option NetAgent
agent_in agents n = lookup (is_at (name_cmp n)) agents

-- its kind
abbrev pub kind_in : List (Name × NetAgent) → Name → Option Kind
kind_in agents n = option_map (λ (a : NetAgent). a.kind) (agent_in agents n)

-- the partner of its port of this number
abbrev pub partner_in : ℕ → Option NetAgent → Option Port
partner_in i None = None
partner_in i (Some a) = slice_get (partner_list a.partners) i

-- the partner that the tables have for a port
abbrev pub found_at : List (Name × NetAgent) → List (ℕ × Port) → Port → Option Port
found_at agents frees (port.Of n i) = partner_in i (agent_in agents n)
found_at agents frees (port.Name j) = lookup (is_at (nat_cmp j)) frees

-- what a port has once a partner is written to it, if one is: no port is added to the tables, and none is taken away
abbrev pub settle : Option Port → Option Port → Option Port
settle None w = None
settle (Some y) None = Some y
settle (Some y) (Some q) = Some q

-- what a port has once these are written in turn
abbrev pub settled : Port → Option Port → List (Port × Option Port) → Option Port
settled x found [] = found
settled x found (w ∷ ws) = settled x (if same_port x w.0 then settle found w.1 else found) ws

-- an agent of this kind, with some partner at each port
abbrev pub IsBlank : Kind → Option NetAgent → Type 0
IsBlank k None = ⊥
IsBlank k (Some a) = (a.kind ≡ k) × (length (partner_list a.partners) ≡ arity k + 1)
