-- What a start shows: its links by the ports that their spots stand for.
use Rattle.std.specs.Prelude.{◌≡◌, ℕ, ◌+◌, ◌≤◌, ◌<◌, ◌^◌, List, [], ◌∷◌, length, map}
use Rattle.ic_name.specs.Names.{start_name}
use Rattle.ic_name.specs.declared.limits.TheConstants.{MAX_START_AGENTS}
use Rattle.ic_name.specs.declared.kinds.Kind.{Kind}
use Rattle.ic_name.specs.declared.rules.Profile.{Profile}
use Rattle.ic_name.specs.declared.ids.Spot.{Spot}
use Rattle.ic_name.specs.declared.ids.Spot.TheVariants as spot
use Rattle.ic_name.specs.declared.ids.MakerId.TheVariants as maker
use Rattle.ic_name.specs.declared.ids.Link.{Link}
use Rattle.ic_name.specs.declared.ports.Port.{Port}
use Rattle.ic_name.specs.declared.ports.Port.TheVariants as port
use Rattle.ic_theory.specs.Starts.{Start, IsProper}

-- the port that a spot of a start stands for: agent k has the slot k
abbrev pub port_at : Spot → Port
port_at (spot.Agent a i) = port.Of (start_name a.slot) i
port_at (spot.Name j) = port.Name j

-- the two ports of a link
abbrev pub join_of : Link → Port × Port
join_of l = (port_at l.a, port_at l.b)

-- a spot of a start with so many agents and names
abbrev pub IsStartSpot : ℕ → ℕ → Spot → Type 0
IsStartSpot agents names (spot.Agent a i) = (a.slot < agents) × (a.serial ≡ 0) × (i ≤ 2)
IsStartSpot agents names (spot.Name j) = j < names

-- links of a start, numbered by place from k on
abbrev pub AreStartLinks : ℕ → ℕ → ℕ → List Link → Type 0
AreStartLinks agents names k [] = Unit {0}
AreStartLinks agents names k (l ∷ ls) =
    (l.id ≡ record { maker = maker.Start; place = k }) × IsStartSpot agents names l.a × IsStartSpot agents names l.b × AreStartLinks agents names (k + 1) ls

-- the start of these kinds, links and texts of names
abbrev pub start_of : List Kind → List Link → List (List ℕ) → Profile → Start
start_of kinds links names profile = record { kinds = kinds; joins = map join_of links; names = names; profile = profile }

-- what a start keeps
pub record IsStart (kinds : List Kind) (links : List Link) (names : List (List ℕ)) (profile : Profile) : Type 0 where
  pub few_agents : length kinds ≤ MAX_START_AGENTS
  pub few_names : length names < 2 ^ 32
  pub placed : AreStartLinks (length kinds) (length names) 0 links
  pub proper : IsProper (start_of kinds links names profile)
