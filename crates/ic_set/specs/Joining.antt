-- Links by ids.
use Rattle.std.specs.Prelude.{◌<◌, ℕ, List, length, slice_index_or}
use Rattle.ic_name.specs.declared.ids.AgentId.{AgentId}
use Rattle.ic_name.specs.declared.ids.EventId.{EventId}
use Rattle.ic_name.specs.declared.ids.Link.{Link}
use Rattle.ic_name.specs.declared.ids.Spot.{Spot}
use Rattle.ic_name.specs.declared.ids.Spot.TheVariants as spot
use Rattle.ic_name.specs.declared.rules.RuleEnd.{RuleEnd}
use Rattle.ic_path.specs.Orders.{IsIn}
use Rattle.ic_link.specs.Made.{no_id}
use Rattle.ic_link.specs.Made as made
use Rattle.ic_set.specs.declared.pairs.ActivePair.{ActivePair}

-- a spot of a start, with the agent under the id that has its number
abbrev pub moved_spot : List AgentId → Spot → Spot
moved_spot ids (spot.Agent a i) = spot.Agent (slice_index_or ids a.slot no_id) i
moved_spot ids (spot.Name j) = spot.Name j

abbrev pub moved_link : List AgentId → Link → Link
moved_link ids l = record { id = l.id; a = moved_spot ids l.a; b = moved_spot ids l.b }

-- the links that the event of a pair makes, by place from k on
abbrev pub made_links : EventId → ActivePair → List AgentId → ℕ → List (RuleEnd × RuleEnd) → List Link
made_links e p born k ends = made.made_links e p.lead p.other born k ends

-- the spot is one of a name, or of an agent whose number has an id
abbrev pub HasNumber : List AgentId → Spot → Type 0
HasNumber ids (spot.Agent a i) = a.slot < length ids
HasNumber ids (spot.Name j) = Unit {0}

abbrev pub HaveNumbers : List AgentId → List Link → Type 0
HaveNumbers ids links = (l : Link) → IsIn l links → HasNumber ids l.a × HasNumber ids l.b
