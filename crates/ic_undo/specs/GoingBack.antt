-- Going back to a mark.
use Rattle.std.specs.Prelude.{◌≡◌, ◌≢◌, ℕ, ◌+◌, ◌<◌, ◌≤◌, ◌⊎◌, List, [], ◌∷◌, ◌++◌, length, map, slice_get}
use Rattle.std.specs.List.{filter_map}
use Rattle.std.specs.List.Sorted.{IsStrictlySortedBy}
use Rattle.ic_name.specs.Events.{Event}
use Rattle.ic_name.specs.declared.limits.TheConstants.{MAX_LINES}
use Rattle.ic_name.specs.declared.lines.Line.{Line}
use Rattle.ic_name.specs.declared.lines.Call.TheVariants.{Fire}
use Rattle.ic_name.specs.declared.lines.Reply.TheVariants.{Fired}
use Rattle.ic_path.specs.Orders.{IsIn, Alike}
use Rattle.ic_path.specs.Rings.{HasEachOnce}
use Rattle.ic_theory.specs.Starts.{Start}
use Rattle.ic_theory.specs.Active.{IsActive}
use Rattle.ic_theory.specs.Causes.{IsRank, canonical_cmp}
use Rattle.ic_theory.specs.Machine.{IsDeep, IsFull}
use Rattle.ic_roster.specs.Rosters.{Stander}
use Rattle.ic_set.specs.Views.{standing, events_of}
use Rattle.ic_journal.specs.Views.{BenchView, set_of}
use Rattle.ic_undo.specs.declared.faults.Counts.{Counts}
use Rattle.ic_undo.specs.declared.faults.BackFault.{BackFault}
use Rattle.ic_undo.specs.declared.faults.BackFault.TheVariants.{HistoryFull, Memory}
use Rattle.ic_journal.specs.Undone.{AreUndone}
use Rattle.ic_undo.specs.Undone.{AreLastFirst}
use Rattle.ic_undo.specs.Marks.{MarkView}

-- the event isn't in the mark
abbrev pub IsOutside : MarkView → Stander → Type 0
IsOutside m x = ¬ (IsIn x.event m.events)

-- the standing events that aren't in the mark, the last in canonical order first
abbrev pub AreOutside : BenchView → MarkView → List Stander → Type 0
AreOutside old m gone = AreLastFirst old (IsOutside m) gone

-- the event is in the mark and doesn't stand
abbrev pub IsMissing : BenchView → MarkView → Event → Type 0
IsMissing v m e = IsIn e m.events × ¬ (IsIn e (standing (set_of v)))

-- the events of the mark that don't stand, each once, in canonical order
pub record AreMissing (v : BenchView) (m : MarkView) (came : List Event) : Type 0 where
  pub each : HasEachOnce (IsMissing v m) came
  pub canonical : (rank : Event → ℕ) → IsRank m.start m.events rank → IsStrictlySortedBy (canonical_cmp rank) came

-- the events at these places of a list
abbrev pub events_at : List Event → List ℕ → List Event
events_at es places = filter_map (slice_get es) places

-- the places in the mark of the events that don't stand, in canonical order
pub record AreMissingAt (v : BenchView) (m : MarkView) (places : List ℕ) : Type 0 where
  pub within : (p : ℕ) → IsIn p places → p < length m.events
  pub missing : AreMissing v m (events_at m.events places)

-- each of these events can be fired after those before it
abbrev pub AreFirable : Start → List Event → List Event → Type 0
AreFirable s es [] = Unit {0}
AreFirable s es (e ∷ later) = IsActive s es e × ¬ (IsDeep e) × ¬ (IsFull s es e) × AreFirable s (e ∷ es) later

-- the line of a fired event
abbrev pub firing : Event → Line
firing e = record { call = Fire e; reply = Fired }

-- these events were fired, in this order, and nothing else was done; what stood stands under the ids that it had, and
-- each line takes at most one line of room
pub record AreFired (old : BenchView) (es : List Event) (new : BenchView) : Type 0 where
  pub came : List Stander
  pub start : new.start ≡ old.start
  pub fired : events_of came ≡ es
  pub events : Alike (came ++ old.events) new.events
  pub lines : new.lines ≡ old.lines ++ map firing es
  pub room : old.room ≤ new.room + length es

-- some of these events were fired, each from the first one on, but not all, and so many
pub record AreSomeFired (old : BenchView) (es : List Event) (count : ℕ) (new : BenchView) : Type 0 where
  pub came : List Event
  pub behind : List Event
  pub parts : came ++ behind ≡ es
  pub left : behind ≢ []
  pub fired : AreFired old came new
  pub fired_count : count ≡ length came

-- these were undone, then these were fired
pub record Goes (old : BenchView) (gone : List Stander) (came : List Event) (counts : Counts) (new : BenchView) : Type 0 where
  pub between : BenchView
  pub undone : AreUndone old gone between
  pub fired : AreFired between came new
  pub undone_count : counts.undone ≡ length gone
  pub fired_count : counts.fired ≡ length came

-- what isn't in the mark was undone, then what was missing was fired
pub record IsBack (old : BenchView) (m : MarkView) (counts : Counts) (new : BenchView) : Type 0 where
  pub gone : List Stander
  pub came : List Event
  pub outside : AreOutside old m gone
  pub missing : AreMissing old m came
  pub did : Goes old gone came counts new

-- nothing was done, or all of what isn't in the mark was undone and some of what was missing was fired, each from the
-- first one on, but not all
pub record IsPartWay (old : BenchView) (m : MarkView) (counts : Counts) (new : BenchView) : Type 0 where
  pub gone : List Stander
  pub others : List Stander
  pub came : List Event
  pub behind : List Event
  pub outside : AreOutside old m (gone ++ others)
  pub missing : AreMissing old m (came ++ behind)
  pub did : Goes old gone came counts new
  pub in_turn : ((gone ≡ []) × (came ≡ [])) ⊎ ((others ≡ []) × (behind ≢ []))

-- the history would be too long with a line for each event that isn't in the mark and each that is missing
abbrev pub DontFitBack : BenchView → MarkView → Type 0
DontFitBack v m = (gone : List Stander) × (came : List Event) × AreOutside v m gone × AreMissing v m came × (MAX_LINES < length v.lines + length gone + length came)

-- why a bench isn't back
abbrev pub IsntBack : BenchView → MarkView → BackFault → BenchView → Type 0
IsntBack old m HistoryFull new = DontFitBack old m × (new ≡ old)
IsntBack old m (Memory counts) new = IsPartWay old m counts new
