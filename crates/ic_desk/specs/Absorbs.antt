-- Absorbing listed events, as the machine does it.
use Rattle.std.specs.Prelude.{◌≡◌, ◌+◌, ◌*◌, ◌<◌, ◌≤◌, List, [], ◌∷◌, length, reverse}
use Rattle.ic_name.specs.Events.{Event, Pair, pair}
use Rattle.ic_name.specs.declared.limits.TheConstants.{MAX_LINES}
use Rattle.ic_name.specs.declared.lines.Call.TheVariants.{Fire}
use Rattle.ic_name.specs.declared.lines.Reply.{Reply}
use Rattle.ic_name.specs.declared.lines.Reply.TheVariants.{Fired}
use Rattle.ic_path.specs.Orders.{IsIn}
use Rattle.ic_theory.specs.Starts.{Start}
use Rattle.ic_theory.specs.Active.{IsActive}
use Rattle.ic_theory.specs.Machine.{Standing, State, events, MachineStep}
use Rattle.ic_undo.specs.Absorbing.{IsLeastListed}
use Rattle.ic_answer.specs.Unwinding.{AreUndoneInTurn, events_of}

-- a history that has two lines for each listed event, too, isn't too long
abbrev pub Fits : State → List Pair → Type 0
Fits st names = st.lines + 2 * length names ≤ MAX_LINES

-- listed events are fired in turn: of those that are active the one with the least lead, in a line of its own
pub data AreAbsorbed (s : Start) (names : List Pair) : State → List Event → State → Type 0 where
  none : {st : State} → AreAbsorbed s names st [] st
  more : {st mid next : State} {e : Event} {es : List Event} → IsLeastListed s (events st) names e → st.lines < MAX_LINES → MachineStep s st (Fire e) Fired mid
      → AreAbsorbed s names mid es next → AreAbsorbed s names st (e ∷ es) next

-- a history that fits, and what was fired of the list
pub record Absorbs (s : Start) (names : List Pair) (st : State) (came : List Event) (mid : State) : Type 0 where
  pub fits : Fits st names
  pub fired : AreAbsorbed s names st came mid

-- each listed event stands
abbrev pub AllStand : State → List Pair → Type 0
AllStand st names = (p : Pair) → IsIn p names → (e : Event) × IsIn e (events st) × (pair e ≡ p)

-- no listed event is active
abbrev pub NoneIsActive : Start → State → List Pair → Type 0
NoneIsActive s st names = (e : Event) → IsActive s (events st) e → IsIn (pair e) names → ⊥

-- the listed event whose turn it is isn't fired, but refused
pub record IsRefused (s : Start) (names : List Pair) (st : State) (reply : Reply) (next : State) : Type 0 where
  pub event : Event
  pub turn : IsLeastListed s (events st) names event
  pub room : st.lines < MAX_LINES
  pub answer : MachineStep s st (Fire event) reply next

-- what came is undone, the last first
pub record TakesBack (s : Start) (st : State) (came : List Event) (next : State) : Type 0 where
  pub gone : List Standing
  pub backwards : events_of gone ≡ reverse came
  pub undid : AreUndoneInTurn s st gone next
