-- What a standing set keeps.
use Rattle.std.specs.Prelude.{◌≡◌, ℕ, List, map}
use Rattle.ic_name.specs.Events.{Event}
use Rattle.ic_name.specs.declared.ids.Link.{Link}
use Rattle.ic_path.specs.Orders.{IsIn, Alike}
use Rattle.ic_theory.specs.Starts.{IsProper}
use Rattle.ic_theory.specs.Sets.{agents}
use Rattle.ic_theory.specs.Sound.{IsSound}
use Rattle.ic_theory.specs.Causes.{IsRank}
use Rattle.ic_theory.specs.Machine.{IsDeep}
use Rattle.ic_cause.specs.Naming.{Naming}
use Rattle.ic_cause.specs.Shown.{Shows}
use Rattle.ic_roster.specs.Rosters.{Member, Stander, HaveOwnNames, HaveOwnLines}
use Rattle.ic_set.specs.Views.{SetView, standing, agent_of, AreChildren}
use Rattle.ic_set.specs.Ids.{IsNaming}
use Rattle.ic_set.specs.Causes.{HaveCauses}

-- the children of the event are there, under the ids that are noted with it
pub record HasChildren (ms : List Member) (x : Stander) : Type 0 where
  pub children : List Member
  pub are : AreChildren x.event x.born children
  pub there : (m : Member) → IsIn m children → IsIn m ms

-- the ranks that are noted are the ranks of the events
abbrev pub HasRanks : SetView → Type 0
HasRanks v = (rank : Event → ℕ) → IsRank v.start (standing v) rank → (x : Stander) → IsIn x v.events → x.rank ≡ rank x.event

-- what is seen of a standing set: it is sound, no event of it is deep, its agents are those of the start and of the
-- events, each with an id of its own, and children, rank and direct causes are noted with each event
pub record IsStandingSet (v : SetView) : Type 0 where
  pub proper : IsProper v.start
  pub sound : IsSound v.start (standing v)
  pub shallow : (x : Stander) → IsIn x v.events → ¬ (IsDeep x.event)
  pub agents : Alike (map agent_of v.agents) (agents v.start (standing v))
  pub own_names : HaveOwnNames v.agents
  pub own_lines : HaveOwnLines v.events
  pub children : (x : Stander) → IsIn x v.events → HasChildren v.agents x
  pub ranks : HasRanks v
  pub causes : HaveCauses v.start v.events

-- what is kept of it: the links that the set leaves, by ids
pub record IsKept (v : SetView) (ls : List Link) : Type 0 where
  pub set : IsStandingSet v
  pub naming : Naming
  pub named : IsNaming v.agents v.events naming
  pub shows : Shows naming v.start (standing v) ls
