-- One call of the machine from states that are the same up to order.
use Rattle.std.proofs.Common.{◌≡◌, ◌+◌, ◌<◌, List, [], ◌∷◌, sym, ap, ◌∙◌, arith}
use Rattle.std.proofs.lemmas.List.{length-append}
use Rattle.ic_name.specs.declared.limits.TheConstants.{MAX_LINES}
use Rattle.ic_name.specs.declared.lines.Call.{Call}
use Rattle.ic_name.specs.declared.lines.Line.{Line}
use Rattle.ic_name.specs.declared.lines.Reply.{Reply}
use Rattle.ic_theory.specs.Starts.{Start, IsProper}
use Rattle.ic_theory.specs.Machine.{State, MachineStep, goes_on}
use Rattle.ic_theory.proofs.Machines.{history_length}
use Rattle.ic_theory.proofs.Replies.{one_answer}
use Rattle.ic_session.specs.States.{IsReached}
use Rattle.ic_theory.specs.Machine.{AreSame}
use Rattle.ic_session.proofs.SameStates.{reached_kept}
use Rattle.ic_theory.proofs.SameStates.{same_then}
use Rattle.ic_work.proofs.SameStates.{moved}

module _ (s : Start) where
  -- each answer is one line more
  pub one_line_more : {st next : State} {c : Call} {q : Reply} → IsReached s st → MachineStep s st c q next → next.lines ≡ st.lines + 1
  one_line_more {c = c} {q = q} r a =
      let new : List Line = record { call = c; reply = q } ∷ [] in
      history_length (goes_on r.1 a) ∙ length-append r.0 new ∙ ap (λ n. n + 1) (sym (history_length r.1))

  -- it leads on to a state within the limit
  pub reached_next : {st next : State} {c : Call} {q : Reply} → IsReached s st → st.lines < MAX_LINES → MachineStep s st c q next → IsReached s next
  reached_next r few a = let n = one_line_more r a in (_, goes_on r.1 a, omega (arith, n, few))

-- a call has one answer, and leaves one state up to order
pub one_step : (s : Start) (st tt next after : State) (c : Call) (q r : Reply) → IsProper s → IsReached s st → IsReached s tt → AreSame st tt
    → MachineStep s st c q next → MachineStep s tt c r after → (q ≡ r) × AreSame next after
one_step s st tt next after c q r ok h k same x y =
    let m = moved s same x in
    let o = one_answer c (reached_kept s ok k) m.answer y in
    (o.reply, same_then m.same (record { standing = o.standing; lines = o.lines }))
