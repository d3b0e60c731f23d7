-- Histories in two parts: the first lines lead to a state, and the others from it.
use Rattle.std.proofs.Common.{◌≡◌, List, [], ◌∷◌, ◌++◌, sym, subst, append-nil, append_assoc}
use Rattle.ic_name.specs.declared.lines.Call.{Call}
use Rattle.ic_name.specs.declared.lines.Line.{Line}
use Rattle.ic_name.specs.declared.lines.Reply.{Reply}
use Rattle.ic_theory.specs.Starts.{Start, IsProper}
use Rattle.ic_theory.specs.Machine.{State, initial, MachineStep, IsHistory, begins, goes_on}
use Rattle.ic_theory.proofs.Machines.{history_kept}
use Rattle.ic_theory.specs.Machine.{AreSame}
use Rattle.ic_work.proofs.SameStates.{moved, one_next}
use Rattle.ic_theory.proofs.SameStates.{same_self}

-- a history of equal lines over an equal start
pub same_history : {s t : Start} {xs ys : List Line} {st : State} → s ≡ t → xs ≡ ys → IsHistory s xs st → IsHistory t ys st
same_history {st = st} e f h = subst (λ (p : Start × List Line). IsHistory p.0 p.1 st) (λ i. (e i, f i)) h

-- lines that are answered in turn, from a state on
pub data AreAnswered (s : Start) : List Line → State → State → Type 0 where
  none : {st : State} → AreAnswered s [] st st
  more : {st mid next : State} {call : Call} {reply : Reply} {lines : List Line} → MachineStep s st call reply mid
      → AreAnswered s lines mid next → AreAnswered s (record { call = call; reply = reply } ∷ lines) st next

module _ (s : Start) where
  -- one line more at the end
  then_line : {st mid next : State} {call : Call} {reply : Reply} {lines : List Line} → AreAnswered s lines st mid → MachineStep s mid call reply next
      → AreAnswered s (lines ++ record { call = call; reply = reply } ∷ []) st next
  then_line none a = more a none
  then_line (more b h) a = more b (then_line h a)

  -- the lines of a history
  answered : {lines : List Line} {st : State} → IsHistory s lines st → AreAnswered s lines initial st
  answered begins = none
  answered (goes_on h a) = then_line (answered h) a

  -- a history that goes on
  pub history_on : (before : List Line) {lines : List Line} {st next : State} → IsHistory s before st → AreAnswered s lines st next → IsHistory s (before ++ lines) next
  history_on before {st = st} h none = subst (λ ls. IsHistory s ls st) (sym (append-nil before)) h
  history_on before {next = next} h (more {call = call} {reply = reply} {lines = lines} a k) =
      let line : Line = record { call = call; reply = reply } in
      subst (λ ls. IsHistory s ls next) (append_assoc before (line ∷ []) lines) (history_on (before ++ line ∷ []) (goes_on h a) k)

  -- the lines of two parts
  parts : (xs : List Line) {ys : List Line} {st next : State} → AreAnswered s (xs ++ ys) st next → (mid : State) × AreAnswered s xs st mid × AreAnswered s ys mid next
  parts [] {st = st} h = (st, none, h)
  parts (x ∷ xs) (more a h) = let p = parts xs h in (p.0, more a p.1, p.2)

  -- the history of the first part, and the lines of the second
  pub history_parts : (xs : List Line) {ys : List Line} {st : State} → IsHistory s (xs ++ ys) st → (mid : State) × IsHistory s xs mid × AreAnswered s ys mid st
  history_parts xs h = let p = parts xs (answered h) in (p.0, history_on [] begins p.1, p.2)

  -- lines are answered the same from a state that is the same
  pub carried : {lines : List Line} {st tt next : State} → AreSame st tt → AreAnswered s lines st next → (after : State) × AreAnswered s lines tt after × AreSame next after
  carried {tt = tt} same none = (tt, none, same)
  carried same (more a h) = let m = moved s same a in let c = carried m.same h in (c.0, more m.answer c.1, c.2)

module _ (s : Start) (ok : IsProper s) where
  -- they lead to one state
  one_end : {before lines : List Line} {st tt next after : State} → IsHistory s before tt → AreSame st tt
      → AreAnswered s lines st next → AreAnswered s lines tt after → AreSame next after
  one_end h same none none = same
  one_end h same (more {call = call} a f) (more b g) = one_end (goes_on h b) (one_next s call (history_kept s ok h) same a b) f g

  -- a history leads to one state
  pub one_state : {lines : List Line} {st tt : State} → IsHistory s lines st → IsHistory s lines tt → AreSame st tt
  one_state h k = one_end begins (same_self initial) (answered s h) (answered s k)
