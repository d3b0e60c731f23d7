-- A bench that fires the active pair with the least lead again and again, and the list of what it fired.
use Rattle.std.specs.Prelude.{◌≡◌, ℕ, ◌+◌, ◌≤◌, List, [], ◌∷◌, ◌++◌, length, Result, Ok, Err, vec_capacity, vec_len}
use Rattle.std.specs.List.{flat_map}
use Rattle.ic_name.specs.Events.{Event}
use Rattle.ic_theory.specs.Machine.{State}
use Rattle.ic_journal.specs.Views.{BenchView}
use Rattle.ic_journal.specs.Benches.{IsAt}
use Rattle.ic_journal.specs.declared.faults.PairFault.{PairFault}
use Rattle.ic_journal.specs.declared.faults.PairFault.TheVariants as pair
use Rattle.ic_answer.specs.Longer.{IsLonger}
use Rattle.ic_answer.specs.Stepped.{AreStepped, RefusesNext, StepsOften, stepped_head}
use Rattle.ic_answer.specs.Texts.{event_line}
use Rattle.ic_answer.specs.declared.listing.Listing.{Listing}
use Rattle.ic_answer.specs.declared.refused.Refused.{Refused}
use Rattle.ic_answer.specs.declared.refused.Refused.TheVariants as refused

-- the list has the lines of these events, and its head tells how many they are; after the lines there is room for the head
pub record Lists (list : Listing) (es : List Event) : Type 0 where
  pub head : list.head.items ≡ stepped_head (length es)
  pub lines : list.lines.items ≡ flat_map event_line es
  pub room : vec_len list.lines + vec_len list.head ≤ vec_capacity list.lines

-- these events were fired in turn
pub record HasStepped (old : BenchView) (es : List Event) (new : BenchView) : Type 0 where
  pub start : new.start ≡ old.start
  pub longer : IsLonger old new
  pub stepped : (st : State) → IsAt old st → (next : State) × AreStepped old.start st es next × IsAt new next

-- the next firing was refused
pub record HasRefused (old : BenchView) (r : Refused) (new : BenchView) : Type 0 where
  pub start : new.start ≡ old.start
  pub longer : IsLonger old new
  pub refuses : (st : State) → IsAt old st → (next : State) × RefusesNext old.start st r next × IsAt new next

-- one event was fired and put into the list, which has so many then; or its firing was refused, and the list stays the same
abbrev pub FiresListed : BenchView → Listing → ℕ → Result (Unit {0}) Refused → BenchView → Listing → Type 0
FiresListed old had count (Ok u) new has = (e : Event) × HasStepped old (e ∷ []) new × ((es : List Event) → Lists had es → length es + 1 ≡ count → Lists has (es ++ e ∷ []))
FiresListed old had count (Err r) new has = HasRefused old r new × ((es : List Event) → Lists had es → Lists has es)

-- the refusal of a firing that has this fault
abbrev pub refusal_of : PairFault → Refused
refusal_of pair.HistoryFull = refused.HistoryFull
refusal_of pair.Deep = refused.Deep
refusal_of pair.Full = refused.Full
refusal_of pair.Memory = refused.Memory

-- the answer to firing the active pair with the least lead, so many times at most, and the bench after it
pub record StepsBench (old : BenchView) (most : ℕ) (text : List ℕ) (new : BenchView) : Type 0 where
  pub start : new.start ≡ old.start
  pub replies : (st : State) → IsAt old st → (next : State) × StepsOften old.start st most text next × IsAt new next
