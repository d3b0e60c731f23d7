-- Going back to a mark, as the machine does it.
use Rattle.std.specs.Prelude.{◌≡◌, ◌≢◌, ◌+◌, ◌<◌, ◌⊎◌, ℕ, List, [], ◌∷◌, ◌++◌, length}
use Rattle.ic_name.specs.Events.{Event}
use Rattle.ic_name.specs.declared.limits.TheConstants.{MAX_LINES}
use Rattle.ic_name.specs.declared.lines.Call.TheVariants.{Fire}
use Rattle.ic_name.specs.declared.lines.Reply.TheVariants.{Fired}
use Rattle.ic_path.specs.Orders.{IsIn}
use Rattle.ic_path.specs.Rings.{HasEachOnce}
use Rattle.ic_theory.specs.Starts.{Start}
use Rattle.ic_theory.specs.Machine.{Standing, State, events, MachineStep}
use Rattle.ic_cause.specs.Journals.{AreCanonical}
use Rattle.ic_answer.specs.Unwinding.{AreLastFirst, AreUndoneInTurn, events_of}

-- the standing events that the mark doesn't have, the last in canonical order first
abbrev pub AreOutside : Start → State → List Event → List Event → Type 0
AreOutside s st marked gone = AreLastFirst s (events st) (λ e. ¬ (IsIn e marked)) gone

-- the events of the mark that don't stand, each once, in canonical order
pub record AreMissing (s : Start) (st : State) (marked came : List Event) : Type 0 where
  pub each : HasEachOnce (λ e. IsIn e marked × ¬ (IsIn e (events st))) came
  pub canonical : AreCanonical s marked came

-- these events are fired in turn, each in a line of its own
pub data AreFired (s : Start) : State → List Event → State → Type 0 where
  none : {st : State} → AreFired s st [] st
  more : {st mid next : State} {e : Event} {es : List Event} → st.lines < MAX_LINES → MachineStep s st (Fire e) Fired mid
      → AreFired s mid es next → AreFired s st (e ∷ es) next

-- a history that has a line for each of these events, too, would be too long
abbrev pub DontFit : State → List Event → List Event → Type 0
DontFit st gone came = MAX_LINES < st.lines + length gone + length came

-- what the mark doesn't have is undone, then what is missing is fired; just the mark's events stand then
pub record GoesBack (s : Start) (st : State) (marked : List Event) (undone fired : ℕ) (next : State) : Type 0 where
  pub gone : List Standing
  pub came : List Event
  pub mid : State
  pub outside : AreOutside s st marked (events_of gone)
  pub missing : AreMissing s st marked came
  pub undid : AreUndoneInTurn s st gone mid
  pub did : AreFired s mid came next
  pub undone_count : undone ≡ length gone
  pub fired_count : fired ≡ length came

-- nothing is done, or all of what the mark doesn't have is undone and some of what is missing is fired, each from the
-- first one on, but not all
pub record GoesPartWay (s : Start) (st : State) (marked : List Event) (undone fired : ℕ) (next : State) : Type 0 where
  pub gone : List Standing
  pub others : List Event
  pub came : List Event
  pub behind : List Event
  pub mid : State
  pub outside : AreOutside s st marked (events_of gone ++ others)
  pub missing : AreMissing s st marked (came ++ behind)
  pub undid : AreUndoneInTurn s st gone mid
  pub did : AreFired s mid came next
  pub undone_count : undone ≡ length gone
  pub fired_count : fired ≡ length came
  pub in_turn : ((gone ≡ []) × (came ≡ [])) ⊎ ((others ≡ []) × (behind ≢ []))
