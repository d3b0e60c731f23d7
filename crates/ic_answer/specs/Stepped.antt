-- Firing the active pair with the least lead again and again, as the machine does it.
use Rattle.std.specs.Prelude.{◌≡◌, ◌≢◌, ℕ, ◌<◌, List, [], ◌∷◌, ◌++◌, length, codes}
use Rattle.std.specs.Fmt.{decimal}
use Rattle.std.specs.List.{flat_map}
use Rattle.ic_name.specs.Events.{Event}
use Rattle.ic_name.specs.declared.limits.TheConstants.{MAX_LINES}
use Rattle.ic_name.specs.declared.lines.Call.TheVariants.{Fire}
use Rattle.ic_name.specs.declared.lines.Reply.TheVariants as reply
use Rattle.ic_theory.specs.Starts.{Start}
use Rattle.ic_theory.specs.Machine.{State, events, MachineStep}
use Rattle.ic_journal.specs.Reducing.{IsLeastActive, IsNormal}
use Rattle.ic_answer.specs.Texts.{event_line, refusal_text}
use Rattle.ic_answer.specs.declared.refused.Refused.{Refused}
use Rattle.ic_answer.specs.declared.refused.Refused.TheVariants.{Deep, Full, HistoryFull, Memory}

-- these events are fired in turn, each the active pair with the least lead, each of them in a line of its own
pub data AreStepped (s : Start) : State → List Event → State → Type 0 where
  none : {st : State} → AreStepped s st [] st
  more : {st mid next : State} {e : Event} {es : List Event} → IsLeastActive s (events st) e → st.lines < MAX_LINES → MachineStep s st (Fire e) reply.Fired mid
      → AreStepped s mid es next → AreStepped s st (e ∷ es) next

-- the firing of the active pair with the least lead is refused: the history is full, or the call meets a limit and is a line
-- of the history, or there is no memory for it
pub data RefusesNext (s : Start) (st : State) : Refused → State → Type 0 where
  history_full : {e : Event} → IsLeastActive s (events st) e → st.lines ≡ MAX_LINES → RefusesNext s st HistoryFull st
  deep : {e : Event} {next : State} → IsLeastActive s (events st) e → st.lines < MAX_LINES → MachineStep s st (Fire e) reply.Deep next → RefusesNext s st Deep next
  full : {e : Event} {next : State} → IsLeastActive s (events st) e → st.lines < MAX_LINES → MachineStep s st (Fire e) reply.Full next → RefusesNext s st Full next
  no_memory : {e : Event} → IsLeastActive s (events st) e → RefusesNext s st Memory st

-- why no more than these were fired, of so many at most: they are so many, no pair is active, or the next firing is refused
pub data StopsAfter (s : Start) (most : ℕ) (es : List Event) (st : State) : State → Type 0 where
  enough : length es ≡ most → StopsAfter s most es st st
  none_active : length es < most → IsNormal s (events st) → StopsAfter s most es st st
  next_refused : {r : Refused} {next : State} → es ≢ [] → length es < most → RefusesNext s st r next → StopsAfter s most es st next

-- how many events were fired
abbrev pub stepped_head : ℕ → List ℕ
stepped_head n = codes "stepped " ++ decimal n ++ codes "\n"

-- how many events were fired, and which, in that order
abbrev pub stepped_text : List Event → List ℕ
stepped_text es = stepped_head (length es) ++ flat_map event_line es

-- The answer to firing the active pair with the least lead, so many times at most, and the state after it.
pub data StepsOften (s : Start) (st : State) (most : ℕ) : List ℕ → State → Type 0 where
  stepped : {es : List Event} {mid next : State} → AreStepped s st es mid → StopsAfter s most es mid next → StepsOften s st most (stepped_text es) next
  first_refused : {r : Refused} {next : State} → 0 < most → RefusesNext s st r next → StepsOften s st most (refusal_text r) next
  memory : StepsOften s st most (refusal_text Memory) st
