-- Undoing what was fired last, as the machine does it.
use Rattle.std.specs.Prelude.{◌≡◌, ◌≢◌, ℕ, ◌<◌, ◌≤◌, List, [], ◌∷◌, ◌++◌, length, codes}
use Rattle.std.specs.Fmt.{decimal}
use Rattle.std.specs.List.{flat_map}
use Rattle.ic_name.specs.Events.{Event}
use Rattle.ic_name.specs.declared.limits.TheConstants.{MAX_LINES}
use Rattle.ic_name.specs.declared.lines.Call.TheVariants.{Undo}
use Rattle.ic_name.specs.declared.lines.Reply.TheVariants.{Undone}
use Rattle.ic_path.specs.Orders.{IsIn}
use Rattle.ic_theory.specs.Starts.{Start}
use Rattle.ic_theory.specs.Machine.{Standing, State, MachineStep}
use Rattle.ic_answer.specs.Texts.{event_line, refusal_text}
use Rattle.ic_answer.specs.declared.refused.Refused.TheVariants.{HistoryFull, Memory}

-- the standing event that was fired last
pub record IsLastFired (st : State) (x : Standing) : Type 0 where
  pub stands : IsIn x st.standing
  pub last : (y : Standing) → IsIn y st.standing → y.line ≤ x.line

-- events are undone in turn, each time the standing event that was fired last, each of them in a line of its own
pub data AreUnstepped (s : Start) : State → List Event → State → Type 0 where
  none : {st : State} → AreUnstepped s st [] st
  more : {st mid next : State} {x : Standing} {es : List Event} → IsLastFired st x → st.lines < MAX_LINES → MachineStep s st (Undo x.line) Undone mid
      → AreUnstepped s mid es next → AreUnstepped s st (x.event ∷ es) next

-- why no more than these were undone, of so many at most: they are so many, no event stands, or the history is full
pub data StopsAfter (most : ℕ) (es : List Event) (next : State) : Type 0 where
  enough : length es ≡ most → StopsAfter most es next
  none_stands : length es < most → next.standing ≡ [] → StopsAfter most es next
  no_line : es ≢ [] → length es < most → next.lines ≡ MAX_LINES → StopsAfter most es next

-- how many events were undone, and which, in that order
abbrev pub unstepped_text : List Event → List ℕ
unstepped_text es = codes "unstepped " ++ decimal (length es) ++ codes "\n" ++ flat_map event_line es

-- The answer to undoing what was fired last, so many times at most, and the state after it.
pub data Unsteps (s : Start) (st : State) (most : ℕ) : List ℕ → State → Type 0 where
  unstepped : {es : List Event} {next : State} → AreUnstepped s st es next → StopsAfter most es next → Unsteps s st most (unstepped_text es) next
  history_full : {x : Standing} → 0 < most → IsIn x st.standing → st.lines ≡ MAX_LINES → Unsteps s st most (refusal_text HistoryFull) st
  memory : Unsteps s st most (refusal_text Memory) st
