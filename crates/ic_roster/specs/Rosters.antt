-- Who is there: agents under their ids, and standing events under theirs, each list in an order that no clause names.
use Rattle.std.specs.Prelude.{◌≡◌, ◌≢◌, ◌<◌, ◌↔◌, ℕ, List, [], ◌∷◌, map, length}
use Rattle.std.specs.declared.cmp.Ordering.TheVariants.{Less}
use Rattle.ic_path.specs.Orders.{Pick, Alike, IsIn}
use Rattle.ic_path.specs.Rings.{HasEachOnce}
use Rattle.ic_name.specs.Names.{Name, name_cmp}
use Rattle.ic_name.specs.Events.{Event}
use Rattle.ic_name.specs.declared.kinds.Kind.{Kind}
use Rattle.ic_name.specs.declared.ids.AgentId.{AgentId}
use Rattle.ic_name.specs.declared.ids.EventId.{EventId}
use Rattle.ic_names.specs.Tables.{name_at}
use Rattle.ic_roster.specs.declared.events.EventEntry.{EventEntry}
use Rattle.ic_roster.specs.declared.interaction.Interaction.{Interaction}

-- an agent under its id
pub record Member : Type 0 where
  pub id : AgentId
  pub name : Name
  pub kind : Kind

-- each agent has a slot and a name of its own
pub record HaveOwnNames (ms : List Member) : Type 0 where
  pub slots : (x y : Member) (rest : List Member) → Pick x ms rest → IsIn y rest → y.id.slot ≢ x.id.slot
  pub names : (x y : Member) (rest : List Member) → Pick x ms rest → IsIn y rest → y.name ≢ x.name

-- no agent of the list has the name
abbrev pub IsNewName : List Member → Name → Type 0
IsNewName ms n = (x : Member) → IsIn x ms → x.name ≢ n

-- agents in order of their names, the least first
abbrev pub AreRising : List Member → Type 0
AreRising [] = Unit {0}
AreRising (m ∷ ms) = ((k : Member) → IsIn k ms → name_cmp m.name k.name ≡ Less) × AreRising ms

-- the ids of all agents, in order of their names
pub record AreByName (ms : List Member) (ids : List AgentId) : Type 0 where
  pub order : List Member
  pub alike : Alike ms order
  pub rising : AreRising order
  pub named : map (λ m. m.id) order ≡ ids

-- a standing event under its id, with its rank, the ids of its children, and those of its direct causes
pub record Stander : Type 0 where
  pub id : EventId
  pub event : Event
  pub rank : ℕ
  pub born : List AgentId
  pub causes : List EventId

-- each event has a slot, a line and a lead of its own
pub record HaveOwnLines (ss : List Stander) : Type 0 where
  pub slots : (x y : Stander) (rest : List Stander) → Pick x ss rest → IsIn y rest → y.id.slot ≢ x.id.slot
  pub lines : (x y : Stander) (rest : List Stander) → Pick x ss rest → IsIn y rest → y.id.line ≢ x.id.line
  pub leads : (x y : Stander) (rest : List Stander) → Pick x ss rest → IsIn y rest → y.event.lead ≢ x.event.lead

-- no event of the list has the line or the lead
abbrev pub IsNewEvent : List Stander → ℕ → Event → Type 0
IsNewEvent ss line e = (x : Stander) → IsIn x ss → (x.id.line ≢ line) × (x.event.lead ≢ e.lead)

-- an event stands under the id
abbrev pub Stands : List Stander → EventId → Type 0
Stands ss d = (x : Stander) × IsIn x ss × (x.id ≡ d)

-- the event under the second id has the first among its direct causes
abbrev pub DependsOn : List Stander → EventId → EventId → Type 0
DependsOn ss d e = (x : Stander) × IsIn x ss × (x.id ≡ e) × IsIn d x.causes

-- the events that have this one among their direct causes, each once
abbrev pub AreDependents : List Stander → EventId → List EventId → Type 0
AreDependents ss d es = HasEachOnce (DependsOn ss d) es

-- the names that are known, the agents, and the standing events
pub record RosterView : Type 0 where
  pub names : List Name
  pub agents : List Member
  pub events : List Stander

-- the event whose agents have their names at these places
abbrev pub event_in : List Name → Interaction → Event
event_in ns i = record { lead = name_at ns i.lead.place; lead_kind = i.lead_kind; other = name_at ns i.other.place; other_kind = i.other_kind }

-- the places are among the names, and the lead has the lesser one
pub record IsNamed (ns : List Name) (i : Interaction) : Type 0 where
  pub lead : i.lead.place < length ns
  pub other : i.other.place < length ns
  pub ordered : name_cmp (name_at ns i.lead.place) (name_at ns i.other.place) ≡ Less

-- what is told of the event that stands under the id
abbrev pub IsEntryOf : RosterView → EventId → EventEntry → Type 0
IsEntryOf r id entry = (x : Stander) × IsIn x r.events × (x.id ≡ id) × (x.event ≡ event_in r.names entry.interaction) × (x.rank ≡ entry.rank)

-- the agents that were there but those under the ids
abbrev pub Loses : List AgentId → List Member → List Member → Type 0
Loses ids old new = (m : Member) → IsIn m new ↔ (IsIn m old × (IsIn m.id ids → ⊥))
