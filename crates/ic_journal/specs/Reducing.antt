-- Active pairs that are fired in turn.
use Rattle.std.specs.Prelude.{◌≡◌, ℕ, ◌+◌, ◌<◌, false, List}
use Rattle.std.specs.Ordering.{is_gt}
use Rattle.ic_name.specs.Names.{name_cmp}
use Rattle.ic_name.specs.Events.{Event}
use Rattle.ic_name.specs.declared.limits.TheConstants.{MAX_LINES}
use Rattle.ic_name.specs.declared.lines.Call.TheVariants.{Fire}
use Rattle.ic_name.specs.declared.lines.Reply.TheVariants.{Fired, Deep, Full}
use Rattle.ic_theory.specs.Starts.{Start}
use Rattle.ic_theory.specs.Active.{IsActive}
use Rattle.ic_theory.specs.Machine.{State, events, MachineStep}

-- the active pair with the least lead
pub record IsLeastActive (s : Start) (es : List Event) (e : Event) : Type 0 where
  pub active : IsActive s es e
  pub least : (f : Event) → IsActive s es f → is_gt (name_cmp e.lead f.lead) ≡ false

-- no pair is active
abbrev pub IsNormal : Start → List Event → Type 0
IsNormal s es = (e : Event) → ¬ (IsActive s es e)

-- so many events are fired in turn, each the active pair with the least lead
pub data AreFiredInTurn (s : Start) : ℕ → State → State → Type 0 where
  none : {st : State} → AreFiredInTurn s 0 st st
  more : {st mid next : State} {e : Event} {n : ℕ} → IsLeastActive s (events st) e → st.lines < MAX_LINES → MachineStep s st (Fire e) Fired mid
      → AreFiredInTurn s n mid next → AreFiredInTurn s (n + 1) st next

-- the firing of the active pair with the least lead meets a limit: the history's, or those on names and agents, upon
-- which it is a line of the history
pub data MeetsLimit (s : Start) (st : State) : State → Type 0 where
  history_full : {e : Event} → IsLeastActive s (events st) e → st.lines ≡ MAX_LINES → MeetsLimit s st st
  deep : {e : Event} {next : State} → IsLeastActive s (events st) e → st.lines < MAX_LINES → MachineStep s st (Fire e) Deep next → MeetsLimit s st next
  full : {e : Event} {next : State} → IsLeastActive s (events st) e → st.lines < MAX_LINES → MachineStep s st (Fire e) Full next → MeetsLimit s st next
