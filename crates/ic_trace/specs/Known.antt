-- The events of a list of letters by number.
use Rattle.std.specs.Prelude.{◌≡◌, ◌≢◌, ℕ, ◌+◌, ◌<◌, ◌⊎◌, ◌↔◌, List, length, map, slice_index_or, Option, Some, None}
use Rattle.std.specs.BTreeMap.{get}
use Rattle.ic_name.specs.Names.{Name, name_cmp, start_name}
use Rattle.ic_name.specs.Events.{Event, Pair}
use Rattle.ic_name.specs.declared.kinds.Kind.TheVariants.{Eps}
use Rattle.ic_path.specs.Orders.{IsIn}
use Rattle.ic_theory.specs.Starts.{Start}
use Rattle.ic_theory.specs.Causes.{IsCause}
use Rattle.ic_theory.specs.Sound.{IsSound}
use Rattle.ic_trace.specs.declared.known.Known.{Known}
use Rattle.ic_trace.specs.declared.known.EventTable.{EventTable}

-- the events in order of numbers
abbrev pub events_in : List Known → List Event
events_in ks = map (λ k. k.event) ks

-- the event of a number; beyond the list one of which no clause speaks
abbrev pub event_at : List Known → ℕ → Event
event_at ks i = slice_index_or (events_in ks) i (record { lead = start_name 0; lead_kind = Eps; other = start_name 0; other_kind = Eps })

-- the rank of the event of a number
abbrev pub rank_at : List Known → ℕ → ℕ
rank_at ks i = slice_index_or (map (λ k. k.rank) ks) i 0

-- the number of the event that the agent leads
abbrev pub IsNumberOf : List Known → Name → Option ℕ → Type 0
IsNumberOf ks n None = (i : ℕ) → i < length ks → (event_at ks i).lead ≢ n
IsNumberOf ks n (Some i) = (i < length ks) × ((event_at ks i).lead ≡ n)

-- each event of a table is found by its lead
abbrev pub AreNumbered : EventTable → Type 0
AreNumbered t = (n : Name) → IsNumberOf t.known.items n (get name_cmp t.numbers n)

-- the numbers are those of the events of these names, in turn
pub record AreNumbersOf (ks : List Known) (names : List Pair) (numbers : List ℕ) : Type 0 where
  pub inside : (j : ℕ) → IsIn j numbers → j < length ks
  pub leads : map (λ j. (event_at ks j).lead) numbers ≡ map (λ p. p.lead) names

-- one more than the greatest rank of these events, and 0 where there are none
pub record IsRankAbove (ks : List Known) (causes : List ℕ) (rank : ℕ) : Type 0 where
  pub above : (j : ℕ) → IsIn j causes → rank_at ks j < rank
  pub least : (rank ≡ 0) ⊎ ((j : ℕ) × IsIn j causes × (rank ≡ rank_at ks j + 1))

-- what is noted of an event holds in the set of all
pub record IsKnown (s : Start) (ks : List Known) (k : Known) : Type 0 where
  pub inside : (j : ℕ) → IsIn j k.causes.items → j < length ks
  pub causes : (c : Event) → IsCause s (events_in ks) k.event c ↔ IsIn c (map (event_at ks) k.causes.items)
  pub low : k.rank < length ks

-- the events are sound together, and of each its direct causes and its rank are noted
pub record AreKnown (s : Start) (ks : List Known) : Type 0 where
  pub sound : IsSound s (events_in ks)
  pub each : (k : Known) → IsIn k ks → IsKnown s ks k
  pub ranks : (k : Known) → IsIn k ks → k.rank ≡ sound.rank k.event
