-- What a standing set is seen as.
use Rattle.std.specs.Prelude.{◌≡◌, List, map}
use Rattle.ic_name.specs.Names.{Name}
use Rattle.ic_name.specs.Events.{Event}
use Rattle.ic_name.specs.declared.kinds.Kind.{Kind}
use Rattle.ic_name.specs.declared.ids.AgentId.{AgentId}
use Rattle.ic_theory.specs.Starts.{Start}
use Rattle.ic_theory.specs.Born.{born_agents}
use Rattle.ic_roster.specs.Rosters.{Member, Stander}

-- the start, and the agents and the standing events under their ids, in orders that no clause names
pub record SetView : Type 0 where
  pub start : Start
  pub agents : List Member
  pub events : List Stander

-- an agent without its id
abbrev pub agent_of : Member → Name × Kind
agent_of m = (m.name, m.kind)

-- the events without their ids
abbrev pub events_of : List Stander → List Event
events_of ss = map (λ x. x.event) ss

-- the events of a standing set
abbrev pub standing : SetView → List Event
standing v = events_of v.events

-- the agents that an event makes, under these ids
pub record AreChildren (e : Event) (ids : List AgentId) (children : List Member) : Type 0 where
  pub under : map (λ m. m.id) children ≡ ids
  pub named : map agent_of children ≡ born_agents e

-- a standing set with the names that are known, each at its place
pub record NamedView : Type 0 where
  pub set : SetView
  pub names : List Name
