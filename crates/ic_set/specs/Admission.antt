-- What an event that is admitted brings.
use Rattle.std.specs.Prelude.{◌≡◌, ℕ, ◌+◌, ◌≤◌, false, List, ◌∷◌, ◌++◌, length, ◌⊎◌, All}
use Rattle.ic_name.specs.Events.{Event}
use Rattle.ic_name.specs.Spots.{made_by}
use Rattle.ic_name.specs.declared.ids.AgentId.{AgentId}
use Rattle.ic_name.specs.declared.ids.EventId.{EventId}
use Rattle.ic_name.specs.declared.ids.Link.{Link}
use Rattle.ic_name.specs.declared.rules.RuleEnd.{RuleEnd}
use Rattle.ic_path.specs.Orders.{IsIn, Alike, IsOnce}
use Rattle.ic_path.specs.Rings.{HasEachOnce}
use Rattle.ic_link.specs.Links.{IsLawful}
use Rattle.ic_link.specs.Made.{HaveDigits}
use Rattle.ic_theory.specs.Causes.{IsCause}
use Rattle.ic_roster.specs.Rosters.{Stander, HaveOwnLines, IsNewEvent, Stands}
use Rattle.ic_set.specs.declared.pairs.ActivePair.{ActivePair}
use Rattle.ic_set.specs.Views.{SetView, standing}
use Rattle.ic_set.specs.Joining.{made_links}

-- the ids are those of the standing events on the path between the event's agents, each once
abbrev pub AreCausesOf : SetView → Event → List EventId → Type 0
AreCausesOf v e ids = HasEachOnce (λ d. (y : Stander) × IsIn y v.events × (y.id ≡ d) × IsCause v.start (standing v) e y.event) ids

-- one more than the greatest rank of the events under the ids, and 0 where there are none
pub record IsRankOver (ss : List Stander) (ids : List EventId) (rank : ℕ) : Type 0 where
  pub above : (x : Stander) → IsIn x ss → IsIn x.id ids → x.rank + 1 ≤ rank
  pub least : (rank ≡ 0) ⊎ ((x : Stander) × IsIn x ss × IsIn x.id ids × (rank ≡ x.rank + 1))

-- an event can be put in under each id with this line: it is new, its children are of the line, it has at most four children,
-- its links can be put in, and its causes stand
pub record CanPutIn (e : Event) (line rank : ℕ) (p : ActivePair) (born : List AgentId) (ends : List (RuleEnd × RuleEnd)) (its_causes : List EventId) (ss : List Stander) (ls : List Link) : Type 0 where
  pub new : IsNewEvent ss line e
  pub children : All (λ a. a.serial ≡ line + 1) born
  pub four : length born ≤ 4
  pub digits : HaveDigits born ends
  pub few : length ends ≤ 8
  pub no_links : (d : EventId) (l : Link) → d.line ≡ line → IsIn l ls → made_by d l ≡ false
  pub lawful : (d : EventId) → d.line ≡ line → HaveOwnLines (record { id = d; event = e; rank = rank; born = born; causes = its_causes } ∷ ss) → IsLawful (made_links d p born 0 ends ++ ls)
  pub causes : All (Stands ss) its_causes
  pub once : IsOnce its_causes

-- the event is there, too, with these links
pub record PutsIn (x : Stander) (made : List Link) (ss ss' : List Stander) (ls ls' : List Link) : Type 0 where
  pub events : Alike (x ∷ ss) ss'
  pub links : Alike (made ++ ls) ls'

-- the events and the links are the same
pub record LeavesAll (ss ss' : List Stander) (ls ls' : List Link) : Type 0 where
  pub events : Alike ss ss'
  pub links : Alike ls ls'
