-- The parts that a net is put together from.
use Rattle.std.specs.Prelude.{◌≡◌, ℕ, List, map}
use Rattle.std.specs.Ordering.{nat_cmp}
use Rattle.std.specs.List.{AllByRecursion}
use Rattle.std.specs.List.Sorted.{IsStrictlySortedBy}
use Rattle.std.specs.declared.cmp.Ordering.TheVariants.{Less}
use Rattle.ic_name.specs.Names.{Name, name_cmp}
use Rattle.ic_name.specs.declared.rules.Profile.{Profile}
use Rattle.ic_name.specs.declared.ports.Port.{Port}
use Rattle.ic_theory.specs.Listed.{NetAgent as Listed, ListedNet}
use Rattle.ic_net.specs.Placed.{listed_at, free_at, AreInside}
use Rattle.ic_net.specs.declared.sheet.placed.PlacedAgent.{PlacedAgent}
use Rattle.ic_net.specs.declared.sheet.placed.PlacedPort.{PlacedPort}

-- the names of the table, the agents in order of names, the partner of each free name in order of numbers, the profile
pub record NetParts : Type 0 where
  pub names : List Name
  pub agents : List Listed
  pub frees : List (ℕ × Port)
  pub profile : Profile

-- a name is greater than those of these agents
abbrev pub IsLastName : Name → List Listed → Type 0
IsLastName n as' = AllByRecursion (λ m. name_cmp m n ≡ Less) (map (λ (a : Listed). a.name) as')

-- a number is greater than those of these free names
abbrev pub IsLastNumber : ℕ → List (ℕ × Port) → Type 0
IsLastNumber j fs = AllByRecursion (λ i. nat_cmp i j ≡ Less) (map (λ (f : ℕ × Port). f.0) fs)

-- what the parts list with this number of rings
abbrev pub listed_parts : NetParts → ℕ → ListedNet
listed_parts p rings = record { agents = p.agents; frees = p.frees; rings = rings; profile = p.profile }

-- agents in order of names and free names in order of numbers, by places that are in the table
abbrev pub AreInOrder : List Name → List PlacedAgent → List (ℕ × PlacedPort) → Type 0
AreInOrder ns as' fs =
    IsStrictlySortedBy name_cmp (map (λ (a : Listed). a.name) (map (listed_at ns) as'))
    × IsStrictlySortedBy nat_cmp (map (λ (f : ℕ × Port). f.0) (map (free_at ns) fs))
    × AreInside ns as' fs
