-- Absorbing events into what stands: those that are listed by name are fired, the active one with the least lead first.
use Rattle.std.specs.Prelude.{◌≡◌, ◌≢◌, ℕ, ◌+◌, ◌*◌, ◌<◌, ◌≤◌, ◌⊎◌, false, List, [], ◌∷◌, ◌++◌, length, map, reverse}
use Rattle.std.specs.Ordering.{is_gt}
use Rattle.ic_name.specs.Names.{name_cmp}
use Rattle.ic_name.specs.Events.{Event, Pair, pair, pair_cmp}
use Rattle.ic_name.specs.declared.limits.TheConstants.{MAX_LINES}
use Rattle.ic_name.specs.declared.lines.Line.{Line}
use Rattle.ic_name.specs.declared.lines.Call.TheVariants.{Fire}
use Rattle.ic_name.specs.declared.lines.Reply.{Reply}
use Rattle.ic_name.specs.declared.lines.Reply.TheVariants as reply
use Rattle.ic_path.specs.Orders.{IsIn}
use Rattle.ic_theory.specs.Starts.{Start}
use Rattle.ic_theory.specs.Active.{IsActive}
use Rattle.ic_theory.specs.Sound.{IsSound}
use Rattle.ic_theory.specs.Machine.{IsDeep, IsFull}
use Rattle.ic_roster.specs.Rosters.{Stander}
use Rattle.ic_set.specs.Changes.{IsSame}
use Rattle.ic_set.specs.Views.{standing, events_of}
use Rattle.ic_journal.specs.Benches.{IsBench}
use Rattle.ic_journal.specs.Views.{BenchView, set_of}
use Rattle.ic_journal.specs.Undone.{undoing}
use Rattle.ic_undo.specs.GoingBack.{AreFired, firing}
use Rattle.ic_undo.specs.Obstacles.{IsObstacle}
use Rattle.ic_undo.specs.declared.faults.AbsorbFault.{AbsorbFault}
use Rattle.ic_undo.specs.declared.faults.AbsorbFault.TheVariants as absorb

-- a sound set of events that stood or are listed
pub record IsWithin (s : Start) (stood : List Event) (names : List Pair) (es : List Event) : Type 0 where
  pub sound : IsSound s es
  pub each : (e : Event) → IsIn e es → IsIn e stood ⊎ IsIn (pair e) names

-- no such set has an event of this name
abbrev pub IsNever : Start → List Event → List Pair → Pair → Type 0
IsNever s stood names p = (es : List Event) → IsWithin s stood names es → (e : Event) → IsIn e es → pair e ≢ p

-- the least listed name of such an event
pub record IsLeastNever (s : Start) (stood : List Event) (names : List Pair) (p : Pair) : Type 0 where
  pub listed : IsIn p names
  pub never : IsNever s stood names p
  pub least : (q : Pair) → IsIn q names → IsNever s stood names q → is_gt (pair_cmp p q) ≡ false

-- a history that has two lines for each listed event, too, isn't too long
abbrev pub Fits : BenchView → List Pair → Type 0
Fits v names = length v.lines + 2 * length names ≤ MAX_LINES

-- of the listed events that are active over the set, this one has the least lead
pub record IsLeastListed (s : Start) (es : List Event) (names : List Pair) (e : Event) : Type 0 where
  pub active : IsActive s es e
  pub listed : IsIn (pair e) names
  pub least : (f : Event) → IsActive s es f → IsIn (pair f) names → is_gt (name_cmp e.lead f.lead) ≡ false

-- each is that of its turn, when those before it stand, too
abbrev pub AreLeastInTurn : Start → List Event → List Pair → List Event → Type 0
AreLeastInTurn s es names [] = Unit {0}
AreLeastInTurn s es names (e ∷ later) = IsLeastListed s es names e × AreLeastInTurn s (e ∷ es) names later

-- listed events were fired, each in its turn, and nothing else was done; each listed event stands now
pub record Absorbs (old : BenchView) (names : List Pair) (count : ℕ) (new : BenchView) : Type 0 where
  pub fits : Fits old names
  pub came : List Event
  pub in_turn : AreLeastInTurn old.start (standing (set_of old)) names came
  pub fired : AreFired old came new
  pub stand : (p : Pair) → IsIn p names → (e : Event) × IsIn e (standing (set_of new)) × (pair e ≡ p)
  pub fired_count : count ≡ length came

-- listed events were fired, each in its turn, maybe a line came that changed nothing, and they were undone, the last
-- first: what stood stands under the ids that it had, and each line takes at most one line of room
pub record TakesBack (old : BenchView) (names : List Pair) (came : List Event) (said : List Line) (new : BenchView) : Type 0 where
  pub fits : Fits old names
  pub between : BenchView
  pub lawful : IsBench between
  pub in_turn : AreLeastInTurn old.start (standing (set_of old)) names came
  pub fired : AreFired old came between
  pub standers : List Stander
  pub named : events_of standers ≡ came
  pub there : (x : Stander) → IsIn x standers → IsIn x between.events
  pub lines : new.lines ≡ old.lines ++ map firing came ++ said ++ map undoing (reverse standers)
  pub same : IsSame (set_of old) (set_of new)
  pub room : old.room ≤ new.room + length came + length said + length came

-- the listed event whose turn it was, over what stood with the events that came
abbrev pub IsNextListed : BenchView → List Pair → List Event → Event → Type 0
IsNextListed old names came e = IsLeastListed old.start (reverse came ++ standing (set_of old)) names e

-- no listed event is active over what stood with the events that came
abbrev pub NoneIsNext : BenchView → List Pair → List Event → Type 0
NoneIsNext old names came = (e : Event) → IsActive old.start (reverse came ++ standing (set_of old)) e → IsIn (pair e) names → ⊥

-- the line of a refused firing
abbrev pub refusing : Event → Reply → Line
refusing e r = record { call = Fire e; reply = r }

-- why events aren't absorbed, and what was in the way of the least one when none was next; what stood before stands then
abbrev pub AbsorbsNone : BenchView → List Pair → AbsorbFault → BenchView → Type 0
AbsorbsNone old names (absorb.NeverActive p why) new = IsLeastNever old.start (standing (set_of old)) names p × ((came : List Event) × NoneIsNext old names came × IsObstacle old.start (reverse came ++ standing (set_of old)) p why × TakesBack old names came [] new)
AbsorbsNone old names absorb.Deep new = (came : List Event) × (e : Event) × IsNextListed old names came e × IsDeep e × TakesBack old names came (refusing e reply.Deep ∷ []) new
AbsorbsNone old names absorb.Full new = (came : List Event) × (e : Event) × IsNextListed old names came e × ¬ (IsDeep e) × IsFull old.start (reverse came ++ standing (set_of old)) e × TakesBack old names came (refusing e reply.Full ∷ []) new
AbsorbsNone old names absorb.HistoryFull new = (MAX_LINES < length old.lines + 2 * length names) × (new ≡ old)
AbsorbsNone old names absorb.Memory new = (came : List Event) × TakesBack old names came [] new
