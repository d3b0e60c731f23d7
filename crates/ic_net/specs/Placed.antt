-- What agents and ports by places show, beside the names of a table.
use Rattle.std.specs.Prelude.{ℕ, ◌<◌, List, length, map, All}
use Rattle.ic_name.specs.Names.{Name}
use Rattle.ic_name.specs.declared.ports.Port.{Port}
use Rattle.ic_name.specs.declared.ports.Port.TheVariants as port
use Rattle.ic_name.specs.declared.rules.Profile.{Profile}
use Rattle.ic_names.specs.Tables.{name_at, StandsAt}
use Rattle.ic_theory.specs.Listed.{NetAgent as Listed, ListedNet}
use Rattle.ic_net.specs.declared.sheet.placed.PlacedPort.{PlacedPort}
use Rattle.ic_net.specs.declared.sheet.placed.PlacedPort.TheVariants as placed
use Rattle.ic_net.specs.declared.sheet.placed.PlacedPartners.{PlacedPartners}
use Rattle.ic_net.specs.declared.sheet.placed.PlacedPartners.TheVariants.{One, Three}
use Rattle.ic_net.specs.declared.sheet.placed.PlacedAgent.{PlacedAgent}

-- the partners by number
abbrev pub placed_list : PlacedPartners → List PlacedPort
placed_list (One ps) = ps
placed_list (Three ps) = ps

-- the port that places stand for
abbrev pub port_at : List Name → PlacedPort → Port
port_at ns (placed.Of n i) = port.Of (name_at ns n.place) i
port_at ns (placed.Name j) = port.Name j

-- the agent that places stand for
abbrev pub listed_at : List Name → PlacedAgent → Listed
listed_at ns a = record { name = name_at ns a.name.place; kind = a.kind; partners = map (port_at ns) (placed_list a.partners) }

-- the free name with its partner that places stand for
abbrev pub free_at : List Name → ℕ × PlacedPort → ℕ × Port
free_at ns f = (f.0, port_at ns f.1)

-- the net of these agents and free names, with so many rings
abbrev pub listed_by : List Name → List PlacedAgent → List (ℕ × PlacedPort) → ℕ → Profile → ListedNet
listed_by ns as' fs rings profile = record { agents = map (listed_at ns) as'; frees = map (free_at ns) fs; rings = rings; profile = profile }

-- the place of the port's agent is one of the table
abbrev pub IsPortInside : List Name → PlacedPort → Type 0
IsPortInside ns (placed.Of n i) = n.place < length ns
IsPortInside ns (placed.Name j) = Unit {0}

-- the places of the agent and of its partners are
pub record IsAgentInside (ns : List Name) (a : PlacedAgent) : Type 0 where
  pub name : a.name.place < length ns
  pub partners : All (IsPortInside ns) (placed_list a.partners)

-- the places of these agents, and of the partners of these free names, are
pub record AreInside (ns : List Name) (as' : List PlacedAgent) (fs : List (ℕ × PlacedPort)) : Type 0 where
  pub agents : All (IsAgentInside ns) as'
  pub frees : All (λ (f : ℕ × PlacedPort). IsPortInside ns f.1) fs

-- the name stands in the table
abbrev pub Stands : List Name → Name → Type 0
Stands ns n = (k : ℕ) × StandsAt ns n k

-- the name of the port's agent does
abbrev pub HasPortName : List Name → Port → Type 0
HasPortName ns (port.Of n i) = Stands ns n
HasPortName ns (port.Name j) = Unit {0}

-- the names of the agent and of its partners do
pub record HasAgentNames (ns : List Name) (a : Listed) : Type 0 where
  pub name : Stands ns a.name
  pub partners : All (HasPortName ns) a.partners

-- all names of agents in the listing do
pub record HasNames (ns : List Name) (l : ListedNet) : Type 0 where
  pub agents : All (HasAgentNames ns) l.agents
  pub frees : All (λ (f : ℕ × Port). HasPortName ns f.1) l.frees
