-- Calls to fire events, in any order.
use Rattle.std.specs.Prelude.{◌≢◌, ◌+◌, ◌<◌, ℕ, List, [], ◌∷◌}
use Rattle.ic_name.specs.Events.{Event}
use Rattle.ic_name.specs.declared.limits.TheConstants.{MAX_LINES}
use Rattle.ic_name.specs.declared.lines.Call.TheVariants.{Fire}
use Rattle.ic_name.specs.declared.lines.Line.{Line}
use Rattle.ic_name.specs.declared.lines.Reply.{Reply}
use Rattle.ic_name.specs.declared.lines.Reply.TheVariants.{Fired}
use Rattle.ic_theory.specs.Starts.{Start}
use Rattle.ic_theory.specs.Machine.{State, MachineStep}

-- calls to fire events are made in turn, each a line of the history, and so many events are fired
pub data AreFirings (s : Start) : List Line → ℕ → State → State → Type 0 where
  none : {st : State} → AreFirings s [] 0 st st
  fired : {st mid next : State} {e : Event} {lines : List Line} {n : ℕ} → st.lines < MAX_LINES → MachineStep s st (Fire e) Fired mid
      → AreFirings s lines n mid next → AreFirings s (record { call = Fire e; reply = Fired } ∷ lines) (n + 1) st next
  refused : {st mid next : State} {e : Event} {r : Reply} {lines : List Line} {n : ℕ} → st.lines < MAX_LINES → r ≢ Fired → MachineStep s st (Fire e) r mid
      → AreFirings s lines n mid next → AreFirings s (record { call = Fire e; reply = r } ∷ lines) n st next
