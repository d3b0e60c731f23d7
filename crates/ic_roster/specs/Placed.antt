-- Agents and events that tell their names by places in the table.
use Rattle.std.specs.Prelude.{◌≡◌, ◌≢◌, ◌<◌, ◌+◌, ℕ, List, map, length, All}
use Rattle.ic_path.specs.Orders.{Pick, IsIn}
use Rattle.ic_path.specs.Rings.{HasEachOnce}
use Rattle.ic_name.specs.Names.{Name}
use Rattle.ic_name.specs.declared.ids.AgentId.{AgentId}
use Rattle.ic_name.specs.declared.ids.EventId.{EventId}
use Rattle.ic_names.specs.Tables.{name_at}
use Rattle.ic_roster.specs.declared.events.EventEntry.{EventEntry}
use Rattle.ic_roster.specs.declared.interaction.Interaction.{Interaction}
use Rattle.ic_roster.specs.declared.agent_records.PlacedAgent.{PlacedAgent}
use Rattle.ic_roster.specs.Rosters.{Member, Stander, RosterView, event_in, IsNamed}

-- each agent has a slot and a place of its own
pub record HaveOwnPlaces (xs : List PlacedAgent) : Type 0 where
  pub slots : (x y : PlacedAgent) (rest : List PlacedAgent) → Pick x xs rest → IsIn y rest → y.id.slot ≢ x.id.slot
  pub places : (x y : PlacedAgent) (rest : List PlacedAgent) → Pick x xs rest → IsIn y rest → y.name.place ≢ x.name.place

-- no agent of the list has its name at the place
abbrev pub IsNewPlace : List PlacedAgent → ℕ → Type 0
IsNewPlace xs place = (x : PlacedAgent) → IsIn x xs → x.name.place ≢ place

-- a standing event under its id, with the places of its names, its rank, the ids of its children, and those of its direct
-- causes
pub record PlacedEvent : Type 0 where
  pub id : EventId
  pub interaction : Interaction
  pub rank : ℕ
  pub born : List AgentId
  pub causes : List EventId

-- the id of the child in a slot of an event of this line
abbrev pub child_in : ℕ → ℕ → AgentId
child_in line k = record { slot = k; serial = line + 1 }

-- what is told of the event of the list that has the id
abbrev pub IsPlacedEntry : List PlacedEvent → EventId → EventEntry → Type 0
IsPlacedEntry xs id entry = (x : PlacedEvent) × IsIn x xs × (x.id ≡ id) × (x.interaction ≡ entry.interaction) × (x.rank ≡ entry.rank)

-- each event has a slot, a line and a place of the lead of its own
pub record HaveOwnKeys (xs : List PlacedEvent) : Type 0 where
  pub slots : (x y : PlacedEvent) (rest : List PlacedEvent) → Pick x xs rest → IsIn y rest → y.id.slot ≢ x.id.slot
  pub lines : (x y : PlacedEvent) (rest : List PlacedEvent) → Pick x xs rest → IsIn y rest → y.id.line ≢ x.id.line
  pub leads : (x y : PlacedEvent) (rest : List PlacedEvent) → Pick x xs rest → IsIn y rest → y.interaction.lead.place ≢ x.interaction.lead.place

-- no event of the list has the line, or its lead at the place
abbrev pub IsNewKey : List PlacedEvent → ℕ → ℕ → Type 0
IsNewKey xs line lead = (x : PlacedEvent) → IsIn x xs → (x.id.line ≢ line) × (x.interaction.lead.place ≢ lead)

-- an event of the list has each of the ids
abbrev pub AreKept : List PlacedEvent → List EventId → Type 0
AreKept xs ds = All (λ d. (x : PlacedEvent) × IsIn x xs × (x.id ≡ d)) ds

-- the events of the list that have this one among their direct causes, each once
abbrev pub AreUsers : List PlacedEvent → EventId → List EventId → Type 0
AreUsers xs d es = HasEachOnce (λ e. (x : PlacedEvent) × IsIn x xs × (x.id ≡ e) × IsIn d x.causes) es

-- the agent with its name
abbrev pub member_in : List Name → PlacedAgent → Member
member_in ns x = record { id = x.id; name = name_at ns x.name.place; kind = x.kind }

-- the agent is one of the roster, and its name lies at its place
abbrev pub IsAgentOf : RosterView → PlacedAgent → Type 0
IsAgentOf r a = IsIn (member_in r.names a) r.agents × (a.name.place < length r.names)

-- the event with its names
abbrev pub stander_in : List Name → PlacedEvent → Stander
stander_in ns x = record { id = x.id; event = event_in ns x.interaction; rank = x.rank; born = x.born; causes = x.causes }

-- the names, and the agents and events with their names
abbrev pub roster_in : List Name → List PlacedAgent → List PlacedEvent → RosterView
roster_in ns xs es = record { names = ns; agents = map (member_in ns) xs; events = map (stander_in ns) es }

-- the places of all agents and events are among the names
pub record AreNamed (ns : List Name) (xs : List PlacedAgent) (es : List PlacedEvent) : Type 0 where
  pub agents : (x : PlacedAgent) → IsIn x xs → x.name.place < length ns
  pub events : (x : PlacedEvent) → IsIn x es → IsNamed ns x.interaction
