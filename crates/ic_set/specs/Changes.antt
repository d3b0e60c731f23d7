-- How a standing set changes.
use Rattle.std.specs.Prelude.{◌≡◌, ℕ, ◌+◌, List, [], ◌∷◌, ◌++◌}
use Rattle.ic_name.specs.Events.{Event}
use Rattle.ic_name.specs.declared.ids.EventId.{EventId}
use Rattle.ic_path.specs.Orders.{IsIn, Alike}
use Rattle.ic_theory.specs.Starts.{Start}
use Rattle.ic_roster.specs.Rosters.{Member, Stander}
use Rattle.ic_set.specs.Views.{SetView, AreChildren}

-- nothing stands yet, and each agent is one of the start
pub record IsOver (s : Start) (v : SetView) : Type 0 where
  pub start : v.start ≡ s
  pub events : v.events ≡ []
  pub serials : (m : Member) → IsIn m v.agents → m.id.serial ≡ 0

-- the same agents and events under the same ids
pub record IsSame (old new : SetView) : Type 0 where
  pub start : new.start ≡ old.start
  pub agents : Alike old.agents new.agents
  pub events : Alike old.events new.events

-- the event is there, too, under this id, with its children under ids of its line
pub record Admits (old : SetView) (e : Event) (line : ℕ) (id : EventId) (new : SetView) : Type 0 where
  pub entry : Stander
  pub children : List Member
  pub under : entry.id ≡ id
  pub in_line : id.line ≡ line
  pub event : entry.event ≡ e
  pub born : AreChildren e entry.born children
  pub serials : (m : Member) → IsIn m children → m.id.serial ≡ line + 1
  pub start : new.start ≡ old.start
  pub agents : Alike (children ++ old.agents) new.agents
  pub events : Alike (entry ∷ old.events) new.events

-- the event under this id is there no more, nor are its children
pub record TakesOut (old : SetView) (id : EventId) (new : SetView) : Type 0 where
  pub entry : Stander
  pub children : List Member
  pub under : entry.id ≡ id
  pub born : AreChildren entry.event entry.born children
  pub start : new.start ≡ old.start
  pub agents : Alike old.agents (children ++ new.agents)
  pub events : Alike old.events (entry ∷ new.events)
