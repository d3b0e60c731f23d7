-- Tables of far ends: a place for each port of each agent, and for each name.
use Rattle.std.specs.Prelude.{◌≡◌, ℕ, ◌+◌, ◌*◌, List, length, slice_index_or}
use Rattle.ic_name.specs.declared.ids.Spot.{Spot}
use Rattle.ic_name.specs.declared.ids.Spot.TheVariants as spot
use Rattle.ic_name.specs.declared.ports.Port.{Port}
use Rattle.ic_start.specs.Starts.{IsStartSpot, port_at}

-- the place of a spot: three places for each agent, then the names
abbrev pub place_of : ℕ → Spot → ℕ
place_of agents (spot.Agent a i) = 3 * a.slot + i
place_of agents (spot.Name j) = 3 * agents + j

-- the spot that the table has for a spot
abbrev pub end_at : ℕ → List Spot → Spot → Spot
end_at agents ends p = slice_index_or ends (place_of agents p) p

-- a table for so many agents and names, whose entries are spots of theirs
pub record IsFarTable (agents names : ℕ) (ends : List Spot) : Type 0 where
  pub long : length ends ≡ 3 * agents + names
  pub inside : (p : Spot) → IsStartSpot agents names p → IsStartSpot agents names (end_at agents ends p)

-- the table has the far ends that the function gives
abbrev pub HasFarEnds : ℕ → ℕ → List Spot → (Spot → Spot) → Type 0
HasFarEnds agents names ends far = (p : Spot) → IsStartSpot agents names p → end_at agents ends p ≡ far p

-- the partner that the table gives a port of an agent, and a name
abbrev pub agent_partner : ℕ → List Spot → ℕ → ℕ → Port
agent_partner agents ends k i = port_at (end_at agents ends (spot.Agent (record { slot = k; serial = 0 }) i))

abbrev pub name_partner : ℕ → List Spot → ℕ → Port
name_partner agents ends j = port_at (end_at agents ends (spot.Name j))
