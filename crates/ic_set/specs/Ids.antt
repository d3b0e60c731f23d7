-- Agents and events under ids as a naming.
use Rattle.std.specs.Prelude.{◌≡◌, true, List}
use Rattle.ic_name.specs.declared.ids.AgentId.{AgentId}
use Rattle.ic_name.specs.declared.ids.EventId.{EventId}
use Rattle.ic_path.specs.Orders.{IsIn}
use Rattle.ic_cause.specs.Naming.{Naming}
use Rattle.ic_roster.specs.Rosters.{Member, Stander}

-- the naming holds the ids of these agents and events and no others, and each id stands for its agent or event
pub record IsNaming (ms : List Member) (ss : List Stander) (n : Naming) : Type 0 where
  pub agents : (m : Member) → IsIn m ms → (n.has_agent m.id ≡ true) × (n.agent m.id ≡ m.name)
  pub no_other_agents : (a : AgentId) → n.has_agent a ≡ true → (m : Member) × IsIn m ms × (m.id ≡ a)
  pub events : (x : Stander) → IsIn x ss → (n.has_event x.id ≡ true) × (n.event x.id ≡ x.event)
  pub no_other_events : (d : EventId) → n.has_event d ≡ true → (x : Stander) × IsIn x ss × (x.id ≡ d)
