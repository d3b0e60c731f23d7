-- What is read off a standing set for its net.
use Rattle.std.specs.Prelude.{◌≡◌, ℕ, ◌⊎◌, List, [], ◌∷◌, ◌++◌, option_map, Some, slice_get}
use Rattle.ic_name.specs.Names.{Name}
use Rattle.ic_name.specs.declared.ids.AgentId.{AgentId}
use Rattle.ic_name.specs.declared.ids.Spot.{Spot}
use Rattle.ic_name.specs.declared.ids.Spot.TheVariants as spot
use Rattle.ic_name.specs.declared.kinds.Kind.{Kind}
use Rattle.ic_name.specs.declared.ports.Port.{Port}
use Rattle.ic_name.specs.declared.ports.Port.TheVariants as port
use Rattle.ic_names.specs.Tables.{name_at}
use Rattle.ic_names.specs.declared.table.NameId.{NameId}
use Rattle.ic_net.specs.Placed.{port_at}
use Rattle.ic_net.specs.declared.sheet.placed.PlacedPort.{PlacedPort}
use Rattle.ic_path.specs.Orders.{IsIn}
use Rattle.ic_theory.specs.Listed.{NetAgent as Listed, agent_among, free_among}
use Rattle.ic_theory.specs.Nets.{Net, kind_of, net_of}
use Rattle.ic_theory.specs.Sets.{consumed_times}
use Rattle.ic_roster.specs.Rosters.{Member, Stander}
use Rattle.ic_set.specs.Views.{SetView, NamedView, standing}

-- the net of the set
abbrev pub net_in : SetView → Net
net_in v = net_of v.start (standing v)

-- the port that a spot stands for
abbrev pub IsPortAt : SetView → Spot → Port → Type 0
IsPortAt v (spot.Agent a i) p = (m : Member) × IsIn m v.agents × (m.id ≡ a) × (p ≡ port.Of m.name i)
IsPortAt v (spot.Name j) p = p ≡ port.Name j

-- the principal port of an agent that leads a standing event
abbrev pub IsLeadPort : SetView → Port → Type 0
IsLeadPort v p = (x : Stander) × IsIn x v.events × (p ≡ port.Of x.event.lead 0)

-- an agent that isn't consumed, under its id
abbrev pub IsLiving : SetView → AgentId → Name → Kind → Type 0
IsLiving v id n k = IsIn (record { id = id; name = n; kind = k }) v.agents × (consumed_times n (standing v) ≡ 0)

-- the partners of the agent's ports, by number
abbrev pub ArePartners : SetView → Name → List Port → Type 0
ArePartners v n ps = (i : ℕ) → slice_get ps i ≡ (net_in v).partner (port.Of n i)

-- the partner of the principal port of the agent whose name stands at this place
abbrev pub IsPrincipalPartner : NamedView → NameId → PlacedPort → Type 0
IsPrincipalPartner w name p = (net_in w.set).partner (port.Of (name_at w.names name.place) 0) ≡ Some (port_at w.names p)

-- the agents are those of the net, each with the partners of its ports
pub record AreNetAgents (v : SetView) (as' : List Listed) : Type 0 where
  pub kinds : (n : Name) → option_map (λ (a : Listed). a.kind) (agent_among n as') ≡ kind_of v.start (standing v) n
  pub partners : (n : Name) (a : Listed) → agent_among n as' ≡ Some a → ArePartners v n a.partners

-- the free names are those of the net, each with its partner
abbrev pub AreNetFrees : SetView → List (ℕ × Port) → Type 0
AreNetFrees v fs = (j : ℕ) → free_among j fs ≡ (net_in v).partner (port.Name j)

-- where the agent under an id isn't consumed, it comes with the partners of its ports; where none is, nothing comes
abbrev pub IsPut : SetView → AgentId → List Listed → List Listed → Type 0
IsPut v id old new =
    (((n : Name) (k : Kind) → IsLiving v id n k → ⊥) × (new ≡ old))
    ⊎ ((a : Listed) × IsLiving v id a.name a.kind × ArePartners v a.name a.partners × (new ≡ old ++ a ∷ []))
