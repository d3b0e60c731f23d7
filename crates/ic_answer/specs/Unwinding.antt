-- Events that are undone in turn.
use Rattle.std.specs.Prelude.{◌+◌, ◌<◌, List, [], ◌∷◌, length, map, reverse}
use Rattle.ic_name.specs.Events.{Event}
use Rattle.ic_name.specs.declared.limits.TheConstants.{MAX_LINES}
use Rattle.ic_name.specs.declared.lines.Call.TheVariants.{Undo}
use Rattle.ic_name.specs.declared.lines.Reply.TheVariants.{Undone}
use Rattle.ic_path.specs.Orders.{IsIn}
use Rattle.ic_path.specs.Rings.{HasEachOnce}
use Rattle.ic_theory.specs.Starts.{Start}
use Rattle.ic_theory.specs.Causes.{IsCause}
use Rattle.ic_theory.specs.Machine.{Standing, State, MachineStep}
use Rattle.ic_cause.specs.Journals.{AreCanonical}

-- an event rests on another one: it is that one, or a direct cause of it rests on that one
pub data RestsOn (s : Start) (es : List Event) (e : Event) : Event → Type 0 where
  itself : RestsOn s es e e
  through : {f c : Event} → IsIn c es → RestsOn s es e c → IsCause s es f c → RestsOn s es e f

-- no matter which event it is
abbrev pub IsAnyEvent : Event → Type 0
IsAnyEvent e = Unit {0}

-- the events of the set with a property, each once, the last in canonical order first
pub record AreLastFirst (s : Start) (es : List Event) (P : Event → Type 0) (fs : List Event) : Type 0 where
  pub each : HasEachOnce (λ e. IsIn e es × P e) fs
  pub backwards : AreCanonical s es (reverse fs)

-- a history that has a line for each of these events, too, would be too long
abbrev pub DontFit : State → List Event → Type 0
DontFit st es = MAX_LINES < st.lines + length es

-- the events without the lines of their firings
abbrev pub events_of : List Standing → List Event
events_of xs = map (λ x. x.event) xs

-- standing events are undone in turn, each of them in a line of its own
pub data AreUndoneInTurn (s : Start) : State → List Standing → State → Type 0 where
  none : {st : State} → AreUndoneInTurn s st [] st
  more : {st mid next : State} {x : Standing} {xs : List Standing} → IsIn x st.standing → st.lines < MAX_LINES → MachineStep s st (Undo x.line) Undone mid
      → AreUndoneInTurn s mid xs next → AreUndoneInTurn s st (x ∷ xs) next
