-- States that are the same up to order: a call of the machine from either one has one answer.
use Rattle.std.proofs.Common.{◌≡◌, ◌+◌, ◌∷◌, refl, ap, subst, ◌∙◌}
use Rattle.ic_name.specs.Events.{Event}
use Rattle.ic_name.specs.declared.lines.Call.{Call}
use Rattle.ic_name.specs.declared.lines.Reply.{Reply}
use Rattle.ic_path.specs.Orders.{here, Alike, more}
use Rattle.ic_path.proofs.Alikes.{alike_self, alike_back, alike_pick, alike_then, alike-in, alike-map}
use Rattle.ic_theory.specs.Starts.{Start}
use Rattle.ic_theory.specs.Machine.{AreSame, Standing, State, events, noted, MachineStep, not_active, deep, full, fired, not_standing, held, undone}
use Rattle.ic_theory.proofs.Machines.{IsKept}
use Rattle.ic_theory.proofs.Normal.{active-alike}
use Rattle.ic_theory.proofs.Replies.{one_answer}
use Rattle.ic_journal.proofs.SameSets.{full-alike, dependent-alike, least-alike}
use Rattle.ic_theory.proofs.SameStates.{same_noted, same_events, same_fired}

-- the same answer from another state, and the state that it leaves there
pub record Moved (s : Start) (tt : State) (c : Call) (q : Reply) (next : State) : Type 0 where
  pub state : State
  pub answer : MachineStep s tt c q state
  pub same : AreSame next state

module _ (s : Start) where
  -- what a call answers it answers from each state that is the same
  pub moved : {st tt next : State} {c : Call} {q : Reply} → AreSame st tt → MachineStep s st c q next → Moved s tt c q next
  moved {tt = tt} same (not_active n) = record { state = noted tt; answer = not_active (λ a. n (active-alike s (alike_back (same_events same)) a)); same = same_noted same }
  moved {tt = tt} same (deep a d) = record { state = noted tt; answer = deep (active-alike s (same_events same) a) d; same = same_noted same }
  moved {tt = tt} same (full {e = e} a d f) = record { state = noted tt; answer = full (active-alike s (same_events same) a) d (full-alike s e (same_events same) f); same = same_noted same }
  moved {tt = tt} same (fired {e = e} a d f) = record {
    state = record { standing = record { event = e; line = tt.lines } ∷ tt.standing; lines = tt.lines + 1 };
    answer = fired (active-alike s (same_events same) a) d (λ g. f (full-alike s e (alike_back (same_events same)) g));
    same = same_fired e same;
  }
  moved {tt = tt} same (not_standing n) = record { state = noted tt; answer = not_standing (λ x i. n x (alike-in (alike_back same.standing) i)); same = same_noted same }
  moved {tt = tt} same (held i e j l) = record { state = noted tt; answer = held (alike-in same.standing i) e (alike-in same.standing j) (least-alike s (same_events same) l); same = same_noted same }
  moved {tt = tt} same (undone p e n) = let r = alike_pick same.standing p in record {
    state = record { standing = r.0; lines = tt.lines + 1 };
    answer = undone r.1 e (λ f d. n f (dependent-alike s (alike_back (same_events same)) d));
    same = record { standing = r.2; lines = ap (λ n. n + 1) same.lines };
  }

  -- it leaves one state
  pub one_next : {st tt next after : State} (c : Call) {q : Reply} → IsKept s tt → AreSame st tt → MachineStep s st c q next → MachineStep s tt c q after → AreSame next after
  one_next c kept same x y =
      let m = moved same x in
      let o = one_answer c kept m.answer y in
      record { standing = alike_then m.same.standing o.standing; lines = m.same.lines ∙ o.lines }
