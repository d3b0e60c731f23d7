-- What lists of agents and free names show of a net.
use Rattle.std.specs.Prelude.{ℕ, ◌<◌, ◌^◌, Bool, List, length}
use Rattle.std.specs.Ordering.{is_lt}
use Rattle.ic_name.specs.Names.{Name}
use Rattle.ic_name.specs.Events.{Event}
use Rattle.ic_name.specs.declared.ports.Port.{Port}
use Rattle.ic_name.specs.declared.ports.Port.TheVariants as port
use Rattle.ic_theory.specs.Starts.{Start, IsProper}
use Rattle.ic_theory.specs.Firings.{IsFired}
use Rattle.ic_theory.specs.Nets.{Net, IsSameNet, net_of}
use Rattle.ic_theory.specs.Listed.{NetAgent as Listed, ListedNet, IsListing, port_cmp, ends_from, shown}
use Rattle.ic_net.specs.declared.agents.Partners.{Partners}
use Rattle.ic_net.specs.declared.agents.Partners.TheVariants.{One, Three}
use Rattle.ic_net.specs.declared.agents.NetAgent.{NetAgent}

-- the partners by number
abbrev pub partner_list : Partners → List Port
partner_list (One ps) = ps
partner_list (Three ps) = ps

-- an agent behind its name
abbrev pub listed_agent : Name × NetAgent → Listed
listed_agent x = record { name = x.0; kind = x.1.kind; partners = partner_list x.1.partners }

-- a start and a firing of events over it that leave this net
pub record IsReached (n : Net) : Type 0 where
  pub start : Start
  pub events : List Event
  pub proper : IsProper start
  pub fired : IsFired start events
  pub net : IsSameNet n (net_of start events)

-- what a net keeps: it is listed in one way, it is of a size that can be counted, and it is that of a firing
pub record IsNet (l : ListedNet) : Type 0 where
  pub listing : IsListing l
  pub few_agents : length l.agents < 2 ^ 32
  pub few_frees : length l.frees < 2 ^ 32
  pub few_rings : l.rings < 2 ^ 63
  pub reached : IsReached (shown l)

-- the ports of an agent with their partners, and a name with its partner
abbrev pub agent_ends : Listed → List (Port × Port)
agent_ends a = ends_from a.name 0 a.partners

abbrev pub name_end : ℕ × Port → Port × Port
name_end x = (port.Name x.0, x.1)

-- a port that is less than its partner
abbrev pub is_lesser_end : Port × Port → Bool
is_lesser_end x = is_lt (port_cmp x.0 x.1)
