-- What the ids of a bench stand for.
use Rattle.std.specs.Prelude.{◌≡◌, Bool, true, Option, Some, None}
use Rattle.ic_name.specs.Names.{Name}
use Rattle.ic_name.specs.Events.{Event}
use Rattle.ic_name.specs.declared.ids.AgentId.{AgentId}
use Rattle.ic_name.specs.declared.ids.EventId.{EventId}
use Rattle.ic_name.specs.declared.ids.MakerId.{MakerId}
use Rattle.ic_name.specs.declared.ids.MakerId.TheVariants as maker
use Rattle.ic_name.specs.declared.ids.Spot.{Spot}
use Rattle.ic_name.specs.declared.ids.Spot.TheVariants as spot
use Rattle.ic_name.specs.declared.ids.Link.{Link}
use Rattle.ic_name.specs.declared.ports.Port.{Port}
use Rattle.ic_name.specs.declared.ports.Port.TheVariants as port
use Rattle.ic_theory.specs.Born.{Link as NetLink}

-- the agent and the event that an id stands for, if it is held
pub record Naming : Type 0 where
  pub agent : AgentId → Name
  pub event : EventId → Event
  pub has_agent : AgentId → Bool
  pub has_event : EventId → Bool

-- ids that are held stand for different agents, and for different events
pub record TellsApart (n : Naming) : Type 0 where
  pub agents : (a b : AgentId) → n.has_agent a ≡ true → n.has_agent b ≡ true → n.agent a ≡ n.agent b → a ≡ b
  pub events : (d e : EventId) → n.has_event d ≡ true → n.has_event e ≡ true → n.event d ≡ n.event e → d ≡ e

-- the port that a spot stands for
abbrev pub port_of : Naming → Spot → Port
port_of n (spot.Agent a i) = port.Of (n.agent a) i
port_of n (spot.Name j) = port.Name j

abbrev pub has_spot : Naming → Spot → Bool
has_spot n (spot.Agent a i) = n.has_agent a
has_spot n (spot.Name j) = true

-- the maker of a link
abbrev pub maker_of : Naming → MakerId → Option Event
maker_of n maker.Start = None
maker_of n (maker.Event e) = Some (n.event e)

abbrev pub has_maker : Naming → MakerId → Bool
has_maker n maker.Start = true
has_maker n (maker.Event e) = n.has_event e

-- the link by names
abbrev pub link_of : Naming → Link → NetLink
link_of n l = record { maker = maker_of n l.id.maker; place = l.id.place; a = port_of n l.a; b = port_of n l.b }

-- a link whose ends and maker are held
pub record IsHeld (n : Naming) (l : Link) : Type 0 where
  pub left : has_spot n l.a ≡ true
  pub right : has_spot n l.b ≡ true
  pub maker : has_maker n l.id.maker ≡ true

-- the other naming holds each id that this one holds, and it stands for the same there
pub record Extends (n more : Naming) : Type 0 where
  pub agents : (a : AgentId) → n.has_agent a ≡ true → (more.has_agent a ≡ true) × (more.agent a ≡ n.agent a)
  pub events : (d : EventId) → n.has_event d ≡ true → (more.has_event d ≡ true) × (more.event d ≡ n.event d)
