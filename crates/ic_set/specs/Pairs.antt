-- Active pairs by ids.
use Rattle.std.specs.Prelude.{◌≡◌, false, List, map, ◌⊎◌, Option, Some}
use Rattle.std.specs.List.Sorted.{IsStrictlySortedBy}
use Rattle.std.specs.Ordering.{is_gt}
use Rattle.ic_name.specs.Names.{name_cmp}
use Rattle.ic_name.specs.Events.{Event}
use Rattle.ic_name.specs.declared.ids.AgentId.{AgentId}
use Rattle.ic_name.specs.declared.ids.EventId.{EventId}
use Rattle.ic_name.specs.declared.ports.Port.TheVariants.{Of}
use Rattle.ic_path.specs.Orders.{IsIn}
use Rattle.ic_path.specs.Rings.{HasEachOnce}
use Rattle.ic_link.specs.declared.principals.Principals.{Principals}
use Rattle.ic_theory.specs.Active.{IsActive}
use Rattle.ic_theory.specs.Causes.{IsCause}
use Rattle.ic_theory.specs.Wires.{IsWire}
use Rattle.ic_roster.specs.Rosters.{Member, Stander}
use Rattle.ic_set.specs.declared.pairs.ActivePair.{ActivePair}
use Rattle.ic_set.specs.Views.{SetView, standing}

-- a wire joins the principal ports of the agents under these ids
pub record AreJoined (v : SetView) (a b : AgentId) : Type 0 where
  pub left : Member
  pub right : Member
  pub left_there : IsIn left v.agents
  pub right_there : IsIn right v.agents
  pub left_id : left.id ≡ a
  pub right_id : right.id ≡ b
  pub wire : IsWire v.start (standing v) (Of left.name 0) (Of right.name 0)

-- the ids are those of the agents of this event, which is active
pub record IsPairOf (v : SetView) (e : Event) (p : ActivePair) : Type 0 where
  pub active : IsActive v.start (standing v) e
  pub lead : IsIn (record { id = p.lead; name = e.lead; kind = e.lead_kind }) v.agents
  pub other : IsIn (record { id = p.other; name = e.other; kind = e.other_kind }) v.agents

-- the ids are those of the agents of an active event
abbrev pub IsActivePair : SetView → ActivePair → Type 0
IsActivePair v p = (e : Event) × IsPairOf v e p

-- the pair is that of the active event with the least lead
pub record IsLeastPair (v : SetView) (p : ActivePair) : Type 0 where
  pub event : Event
  pub pair : IsPairOf v event p
  pub least : (f : Event) → IsActive v.start (standing v) f → is_gt (name_cmp event.lead f.lead) ≡ false

-- the pairs are those of all active events, each once, by lead
pub record AreActivePairs (v : SetView) (pairs : List ActivePair) : Type 0 where
  pub order : List (Event × ActivePair)
  pub each : HasEachOnce (λ (x : Event × ActivePair). IsPairOf v x.0 x.1) order
  pub by_lead : IsStrictlySortedBy name_cmp (map (λ (x : Event × ActivePair). x.0.lead) order)
  pub named : map (λ (x : Event × ActivePair). x.1) order ≡ pairs

-- the agents are those of the pair, either way round
abbrev pub IsBetween : Option Principals → ActivePair → Type 0
IsBetween j p = (j ≡ Some (record { one = p.lead; other = p.other })) ⊎ (j ≡ Some (record { one = p.other; other = p.lead }))

-- the pairs are the active ones between the agents of one of these joins
pub record AreActiveJoins (v : SetView) (joins : List (Option Principals)) (pairs : List (Option ActivePair)) : Type 0 where
  pub each : (e : Event) (p : ActivePair) (j : Option Principals) → IsPairOf v e p → IsIn j joins → IsBetween j p → IsIn (Some p) pairs
  pub only : (p : ActivePair) → IsIn (Some p) pairs → IsActivePair v p × ((j : Option Principals) × IsIn j joins × IsBetween j p)

-- the pairs are those that are active in the second set and weren't in the first: each of them, and no other
pub record Awakes (old new : SetView) (pairs : List (Option ActivePair)) : Type 0 where
  pub each : (e : Event) (p : ActivePair) → IsPairOf new e p → IsPairOf old e p ⊎ IsIn (Some p) pairs
  pub only : (p : ActivePair) → IsIn (Some p) pairs → IsActivePair new p × (IsActivePair old p → ⊥)

-- the pairs are those that the event under the id makes: their events are active, and would have it as a direct cause
pub record AreBornPairs (v : SetView) (id : EventId) (pairs : List (Option ActivePair)) : Type 0 where
  pub each : (e : Event) (p : ActivePair) (x : Stander) → IsPairOf v e p → IsIn x v.events → x.id ≡ id → IsCause v.start (standing v) e x.event → IsIn (Some p) pairs
  pub only : (p : ActivePair) → IsIn (Some p) pairs → (e : Event) × (x : Stander) × IsPairOf v e p × IsIn x v.events × (x.id ≡ id) × IsCause v.start (standing v) e x.event
