-- Agents that are entered.
use Rattle.std.specs.Prelude.{◌≡◌, ◌≢◌, ℕ, ◌<◌, ◌≤◌, List, ◌++◌, map, length, All}
use Rattle.ic_name.specs.Names.{Name}
use Rattle.ic_name.specs.declared.kinds.Kind.{Kind}
use Rattle.ic_name.specs.declared.ids.AgentId.{AgentId}
use Rattle.ic_names.specs.Tables.{name_at}
use Rattle.ic_path.specs.Orders.{Pick, IsIn, Alike}
use Rattle.ic_roster.specs.Rosters.{Member, IsNewName}
use Rattle.ic_set.specs.declared.entering.NewAgent.{NewAgent}
use Rattle.ic_set.specs.Views.{agent_of}

-- the agent's name and kind
abbrev pub named_in : List Name → NewAgent → Name × Kind
named_in ns x = (name_at ns x.name.place, x.kind)

-- their names and kinds
abbrev pub agents_in : List Name → List NewAgent → List (Name × Kind)
agents_in ns xs = map (named_in ns) xs

-- each of their names is one of the table
abbrev pub AreNamed : List Name → List NewAgent → Type 0
AreNamed ns xs = All (λ x. x.name.place < length ns) xs

-- the new table is the old one with names behind it, so many at most
pub record GrowsBy (most : ℕ) (old new : List Name) : Type 0 where
  pub more : List Name
  pub behind : new ≡ old ++ more
  pub few : length more ≤ most

-- no agent has one of the names, and no two of the names are one
pub record CanEnter (ms : List Member) (entering : List (Name × Kind)) : Type 0 where
  pub new : (x : Name × Kind) → IsIn x entering → IsNewName ms x.0
  pub apart : (x y : Name × Kind) (rest : List (Name × Kind)) → Pick x entering rest → IsIn y rest → y.0 ≢ x.0

-- the agents are there, too, under these ids, which have this serial number
pub record Enters (old : List Member) (entering : List (Name × Kind)) (serial : ℕ) (ids : List AgentId) (new : List Member) : Type 0 where
  pub entered : List Member
  pub under : map (λ m. m.id) entered ≡ ids
  pub named : map agent_of entered ≡ entering
  pub serials : (m : Member) → IsIn m entered → m.id.serial ≡ serial
  pub alike : Alike (entered ++ old) new
