-- Marks: what stood on a bench at one time.
use Rattle.std.specs.Prelude.{◌≡◌, ℕ, ◌+◌, ◌<◌, ◌≤◌, List, All, Option, Some, length, map, take, drop, slice_get}
use Rattle.std.specs.List.Sorted.{IsStrictlySortedBy}
use Rattle.std.specs.declared.cmp.Ordering.TheVariants.{Less}
use Rattle.ic_name.specs.Names.{Name, IsName, name_cmp}
use Rattle.ic_name.specs.Events.{Event}
use Rattle.ic_name.specs.declared.limits.TheConstants.{MAX_AGENTS, MAX_LINES}
use Rattle.ic_slots.specs.Slots.{slot_of}
use Rattle.ic_names.specs.Tables.{StandsAt, name_at}
use Rattle.ic_path.specs.Orders.{IsIn, Alike}
use Rattle.ic_theory.specs.Starts.{Start}
use Rattle.ic_theory.specs.Sets.{agents}
use Rattle.ic_theory.specs.Causes.{IsRank, canonical_cmp}
use Rattle.ic_theory.specs.Machine.{IsDeep}
use Rattle.ic_theory.specs.Sound.{IsSound}
use Rattle.ic_set.specs.Views.{standing}
use Rattle.ic_journal.specs.Views.{BenchView, set_of}
use Rattle.ic_undo.specs.declared.marked_events.MarkedEvent.{MarkedEvent}

-- the start, and the events in canonical order
pub record MarkView : Type 0 where
  pub start : Start
  pub events : List Event

-- what a mark keeps: a sound set in canonical order that a bench can hold
pub record IsMark (m : MarkView) : Type 0 where
  pub sound : IsSound m.start m.events
  pub canonical : (rank : Event → ℕ) → IsRank m.start m.events rank → IsStrictlySortedBy (canonical_cmp rank) m.events
  pub shallow : (e : Event) → IsIn e m.events → ¬ (IsDeep e)
  pub few_agents : length (agents m.start m.events) ≤ MAX_AGENTS
  pub few_events : length m.events ≤ MAX_LINES

-- the mark is one of what stands on the bench
pub record Marks (v : BenchView) (m : MarkView) : Type 0 where
  pub start : m.start ≡ v.start
  pub events : Alike (standing (set_of v)) m.events

-- the lead of each of the events stands in the table, and under its place there is a place; and that is always the place of
-- an event that the agent of the name leads
pub record ArePlaces (es : List Event) (leads : List Name) (at : List (Option ℕ)) : Type 0 where
  pub each : (e : Event) → IsIn e es → (k : ℕ) × (p : ℕ) × StandsAt leads e.lead k × (slot_of at k ≡ Some p)
  pub only : (k p : ℕ) → slot_of at k ≡ Some p → (e : Event) × (slice_get es p ≡ Some e) × StandsAt leads e.lead k

-- the event that a mark keeps: the name of its lead stands in the table, and the digits of its other agent in the vector
abbrev pub marked_event : List Name → List ℕ → MarkedEvent → Event
marked_event leads digits e = record {
  lead = name_at leads e.lead.place;
  lead_kind = e.lead_kind;
  other = record { start = e.other_start; digits = take e.other_depth (drop e.first digits) };
  other_kind = e.other_kind;
}

-- its lead has a place in the table and its digits have theirs in the vector, and it is an event: its other agent has a name,
-- and the lead is the lesser one
pub record IsMarked (leads : List Name) (digits : List ℕ) (e : MarkedEvent) : Type 0 where
  pub lead : e.lead.place < length leads
  pub behind : e.first + e.other_depth ≤ length digits
  pub other : IsName (marked_event leads digits e).other
  pub ordered : name_cmp (marked_event leads digits e).lead (marked_event leads digits e).other ≡ Less

-- each of the events that a mark keeps is one, and the places of all of them are noted under their leads
pub record AreMarked (leads : List Name) (digits : List ℕ) (es : List MarkedEvent) (at : List (Option ℕ)) : Type 0 where
  pub each : All (IsMarked leads digits) es
  pub places : ArePlaces (map (marked_event leads digits) es) leads at
