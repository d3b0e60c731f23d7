-- Events that are undone in turn from states that are the same up to order.
use Rattle.std.proofs.Common.{◌≡◌, ◌+◌, ◌≤◌, List, length, sym, ap, subst, arith}
use Rattle.ic_name.specs.Events.{Event}
use Rattle.ic_name.specs.declared.limits.TheConstants.{MAX_LINES}
use Rattle.ic_name.specs.declared.lines.Call.TheVariants.{Undo}
use Rattle.ic_name.specs.declared.lines.Reply.TheVariants.{Undone}
use Rattle.ic_theory.specs.Starts.{Start, IsProper}
use Rattle.ic_theory.specs.Machine.{Standing, State, MachineStep}
use Rattle.ic_session.specs.States.{IsReached}
use Rattle.ic_theory.specs.Machine.{AreSame}
use Rattle.ic_answer.specs.Unwinding.{AreUndoneInTurn, none, more, events_of}
use Rattle.ic_session.proofs.OneEvent.{standing_once}
use Rattle.ic_session.proofs.OneStep.{one_line_more, reached_next, one_step}
use Rattle.ic_session.proofs.SameStates.{reached_kept}

module _ (s : Start) where
  -- they lead on to a state within the limit
  pub reached_undone : {st next : State} {xs : List Standing} → IsReached s st → AreUndoneInTurn s st xs next → IsReached s next
  reached_undone r none = r
  reached_undone r (more i few a u) = reached_undone (reached_next s r few a) u

  -- there is a line for each of them
  pub lines_fit : {st next : State} {xs : List Standing} → IsReached s st → AreUndoneInTurn s st xs next → st.lines + length xs ≤ MAX_LINES
  lines_fit r none = let l = r.2 in omega (arith, l)
  lines_fit r (more i few a u) =
      let n = one_line_more s r a in
      let rest = lines_fit (reached_next s r few a) u in
      omega (arith, n, rest)

module _ (s : Start) (ok : IsProper s) where
  -- where the events are the same, so is what they leave
  pub undone_once : {st tt next after : State} {xs ys : List Standing} → IsReached s st → IsReached s tt → AreSame st tt → events_of xs ≡ events_of ys
      → AreUndoneInTurn s st xs next → AreUndoneInTurn s tt ys after → AreSame next after
  undone_once h k same e none none = same
  undone_once h k same e none (more j few b u) = cc
  undone_once h k same e (more i few a u) none = cc
  undone_once {st} {tt} h k same e (more {mid = mid} {x = x} {xs = xs} i few a u) (more {mid = mid'} {x = y} {xs = ys} j few' b v) =
      let event : x.event ≡ y.event = cc in
      let behind : events_of xs ≡ events_of ys = cc in
      let line : y.line ≡ x.line = ap (λ (z : Standing). z.line) (sym (standing_once (reached_kept s ok h) same i j (ap (λ (z : Event). z.lead) event))) in
      let b' : MachineStep s tt (Undo x.line) Undone mid' = subst (λ n. MachineStep s tt (Undo n) Undone mid') line b in
      let step = one_step s st tt mid mid' (Undo x.line) Undone Undone ok h k same a b' in
      undone_once (reached_next s h few a) (reached_next s k few' b) step.1 behind u v
