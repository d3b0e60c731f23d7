-- What is read of a bench by ids. An event is found by the line of its firing.
use Rattle.std.specs.Prelude.{◌≡◌, ◌≢◌, ℕ, List, Option, Some, None}
use Rattle.ic_name.specs.Names.{Name}
use Rattle.ic_name.specs.Events.{Event}
use Rattle.ic_name.specs.declared.kinds.Kind.{Kind}
use Rattle.ic_name.specs.declared.ids.AgentId.{AgentId}
use Rattle.ic_name.specs.declared.ids.EventId.{EventId}
use Rattle.ic_path.specs.Orders.{IsIn}
use Rattle.ic_theory.specs.Causes.{IsRank}
use Rattle.ic_roster.specs.Rosters.{Member, Stander}
use Rattle.ic_set.specs.Views.{standing}
use Rattle.ic_set.specs.Orders.{AreInOrder, IsCauseOf, DependsOn}
use Rattle.ic_journal.specs.Views.{BenchView, set_of}
use Rattle.ic_journal.specs.Proposals.{HoldsNone}

-- the event stands, and its firing is the line of the id
abbrev pub StandsIn : BenchView → EventId → Stander → Type 0
StandsIn v d x = IsIn x v.events × (x.id.line ≡ d.line)

-- no standing event was fired in the line of the id
abbrev pub NoneStands : BenchView → EventId → Type 0
NoneStands v d = (x : Stander) → IsIn x v.events → x.id.line ≢ d.line

-- the kind of the agent under the id
abbrev pub IsKindOf : BenchView → AgentId → Option Kind → Type 0
IsKindOf v a (Some k) = (m : Member) × IsIn m v.agents × (m.id ≡ a) × (m.kind ≡ k)
IsKindOf v a None = HoldsNone v a

-- its name
abbrev pub IsNameOf : BenchView → AgentId → Option Name → Type 0
IsNameOf v a (Some n) = (m : Member) × IsIn m v.agents × (m.id ≡ a) × (m.name ≡ n)
IsNameOf v a None = HoldsNone v a

-- the event under the id
abbrev pub IsEventUnder : BenchView → EventId → Option Event → Type 0
IsEventUnder v d (Some e) = (x : Stander) × StandsIn v d x × (x.event ≡ e)
IsEventUnder v d None = NoneStands v d

-- its rank
abbrev pub IsRankOf : BenchView → EventId → Option ℕ → Type 0
IsRankOf v d (Some r) = (x : Stander) × StandsIn v d x × ((rank : Event → ℕ) → IsRank v.start (standing (set_of v)) rank → r ≡ rank x.event)
IsRankOf v d None = NoneStands v d

-- the ids of its direct causes, in canonical order
abbrev pub AreCausesOf : BenchView → EventId → Option (List EventId) → Type 0
AreCausesOf v d (Some ids) = (x : Stander) × StandsIn v d x × AreInOrder (set_of v) (IsCauseOf (set_of v) x.id) ids
AreCausesOf v d None = NoneStands v d

-- the ids of its direct dependents, in canonical order
abbrev pub AreDependentsOf : BenchView → EventId → Option (List EventId) → Type 0
AreDependentsOf v d (Some ids) = (x : Stander) × StandsIn v d x × AreInOrder (set_of v) (DependsOn (set_of v) x.id) ids
AreDependentsOf v d None = NoneStands v d
