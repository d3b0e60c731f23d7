-- Nets as finite data: lists that show a net, in one way each.
use Rattle.std.specs.Prelude.{◌≡◌, ℕ, ◌+◌, List, [], ◌∷◌, ◌++◌, length, map, Option, Some, None, option_map, slice_get, if◌then◌else◌, eqb, count_by, All}
use Rattle.std.specs.List.{filter_map, flat_map}
use Rattle.std.specs.List.Sorted.{IsStrictlySortedBy}
use Rattle.std.specs.declared.cmp.Ordering.{Ordering}
use Rattle.std.specs.declared.cmp.Ordering.TheVariants.{Less, Greater}
use Rattle.std.specs.Ordering.{is_lt, ordering_then, nat_cmp}
use Rattle.ic_name.specs.Names.{Name, name_cmp}
use Rattle.ic_name.specs.Kinds.{arity}
use Rattle.ic_name.specs.Same.{same_name}
use Rattle.ic_name.specs.declared.kinds.Kind.{Kind}
use Rattle.ic_name.specs.declared.rules.Profile.{Profile}
use Rattle.ic_name.specs.declared.ports.Port.{Port}
use Rattle.ic_name.specs.declared.ports.Port.TheVariants.{Of}
use Rattle.ic_name.specs.declared.ports.Port.TheVariants as port
use Rattle.ic_theory.specs.Nets.{Net}

-- an agent of a net: its name, its kind, and the partners of its ports by number
pub record NetAgent : Type 0 where
  pub name : Name
  pub kind : Kind
  pub partners : List Port

-- the agents in order of names, the partner of each free name in order of numbers, the number of rings, the profile
pub record ListedNet : Type 0 where
  pub agents : List NetAgent
  pub frees : List (ℕ × Port)
  pub rings : ℕ
  pub profile : Profile

-- the agent of this name
abbrev pub agent_among : Name → List NetAgent → Option NetAgent
agent_among n [] = None
agent_among n (a ∷ as') = if same_name n a.name then Some a else agent_among n as'

-- the partner of the agent's port of this number
abbrev pub partner_at : ℕ → Option NetAgent → Option Port
partner_at i None = None
partner_at i (Some a) = slice_get a.partners i

-- the partner of the free name of this number
abbrev pub free_among : ℕ → List (ℕ × Port) → Option Port
free_among j [] = None
free_among j (x ∷ xs) = if eqb j x.0 then Some x.1 else free_among j xs

-- the partner of a port
abbrev pub partner_among : ListedNet → Port → Option Port
partner_among l (Of n i) = partner_at i (agent_among n l.agents)
partner_among l (port.Name j) = free_among j l.frees

-- the net that the lists show
abbrev pub shown : ListedNet → Net
shown l = record {
  kind = λ n. option_map (λ a. a.kind) (agent_among n l.agents);
  partner = partner_among l;
  rings = l.rings;
  profile = l.profile;
}

-- the one way to list a net: in order, and each agent with as many partners as it has ports
pub record IsListing (l : ListedNet) : Type 0 where
  pub in_order : IsStrictlySortedBy name_cmp (map (λ a. a.name) l.agents)
  pub whole : All (λ a. length a.partners ≡ arity a.kind + 1) l.agents
  pub numbered : IsStrictlySortedBy nat_cmp (map (λ (x : ℕ × Port). x.0) l.frees)

-- the order of ports: those of agents by name and number, then the names of the text by number
abbrev pub port_cmp : Port → Port → Ordering
port_cmp (Of m i) (Of n j) = ordering_then (name_cmp m n) (nat_cmp i j)
port_cmp (Of m i) (port.Name j) = Less
port_cmp (port.Name i) (Of n j) = Greater
port_cmp (port.Name i) (port.Name j) = nat_cmp i j

-- the ports of an agent with their partners, from number i on
abbrev pub ends_from : Name → ℕ → List Port → List (Port × Port)
ends_from n i [] = []
ends_from n i (p ∷ ps) = (Of n i, p) ∷ ends_from n (i + 1) ps

-- each loose port with its partner
abbrev pub ends_of : ListedNet → List (Port × Port)
ends_of l = flat_map (λ a. ends_from a.name 0 a.partners) l.agents ++ map (λ (x : ℕ × Port). (port.Name x.0, x.1)) l.frees

-- the number of wires: each is counted at the lesser of its two ports
abbrev pub wires_of : ListedNet → ℕ
wires_of l = count_by (λ (x : Port × Port). is_lt (port_cmp x.0 x.1)) (ends_of l)

-- the active pair that an agent leads, if it does: its principal port's partner is the principal port of a greater agent
abbrev pub led_pair : Name → Option Port → Option (Name × Name)
led_pair n (Some (Of m i)) = if eqb i 0 then (if is_lt (name_cmp n m) then Some (n, m) else None) else None
led_pair n _ = None

-- the active pairs, by lead
abbrev pub active_pairs : ListedNet → List (Name × Name)
active_pairs l = filter_map (λ a. led_pair a.name (slice_get a.partners 0)) l.agents
