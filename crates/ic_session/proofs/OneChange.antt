-- A firing and an undo have one answer, and leave one state up to order.
use Rattle.std.proofs.Common.{◌≡◌, ℕ, ◌<◌, List, refl, sym, ap, subst, ◌∙◌, arith}
use Rattle.std.specs.Prelude.{codes}
use Rattle.ic_name.specs.Events.{Event, Pair, pair}
use Rattle.ic_name.specs.declared.limits.TheConstants.{MAX_LINES}
use Rattle.ic_name.specs.declared.lines.Call.TheVariants as call
use Rattle.ic_name.specs.declared.lines.Reply.{Reply}
use Rattle.ic_name.specs.declared.lines.Reply.TheVariants as reply
use Rattle.ic_path.proofs.Alikes.{alike_back, alike-in}
use Rattle.ic_theory.specs.Starts.{Start, IsProper}
use Rattle.ic_theory.specs.Machine.{Standing, State, MachineStep}
use Rattle.ic_theory.proofs.Replies.{one_line}
use Rattle.ic_answer.specs.CommandReplies.{IsNamed, IsPresent}
use Rattle.ic_session.specs.States.{IsReached}
use Rattle.ic_theory.specs.Machine.{AreSame}
use Rattle.ic_answer.specs.Texts.{pair_line}
use Rattle.ic_session.proofs.OneEvent.{present_once, present-alike}
use Rattle.ic_session.proofs.OneQuery.{left_same, one_word, named_too, named_once}
use Rattle.ic_session.proofs.OneStep.{one_step}
use Rattle.ic_session.proofs.SameStates.{reached_kept}
use Rattle.ic_session.proofs.Saying.{FireSays, no_agents, called, fire_text, UndoSays, undone, held}
use Rattle.ic_theory.proofs.SameStates.{same_back, same_events}

-- two agents that are there here are there in each state that is the same
present_too : {s : Start} {st tt : State} {p : Pair} {e : Event} → AreSame st tt → IsPresent s st p e → IsPresent s tt p e
present_too {s} same h = record { present = present-alike s (same_events same) h.present; name = h.name }

-- no history has a line left and none
never_full : {st tt : State} → AreSame st tt → st.lines ≡ MAX_LINES → tt.lines < MAX_LINES → ⊥
never_full same full few = let l = same.lines in omega (arith, l, full, few)

-- the line in a reply that tells of a dependent
abbrev line_of : Reply → ℕ
line_of (reply.Held l) = l
line_of _ = 0

module _ (s : Start) (ok : IsProper s) {st tt next after : State} (h : IsReached s st) (k : IsReached s tt) (same : AreSame st tt) where
  -- a firing
  pub one_fire : {p : Pair} {x y : List ℕ} → FireSays s st p x next → FireSays s tt p y after → (x ≡ y) × AreSame next after
  one_fire (no_agents n e u) (no_agents m f v) = (one_word e f refl, left_same same u v)
  one_fire (no_agents n e u) (FireSays.no_line i full f v) = absurd (n _ (present_too (same_back same) i))
  one_fire (no_agents n e u) (called i few a f) = absurd (n _ (present_too (same_back same) i))
  one_fire (FireSays.no_line i full e u) (no_agents n f v) = absurd (n _ (present_too same i))
  one_fire (FireSays.no_line i full e u) (FireSays.no_line j full' f v) = (one_word e f refl, left_same same u v)
  one_fire (FireSays.no_line i full e u) (called j few a f) = absurd (never_full same full few)
  one_fire (called i few a e) (no_agents n f v) = absurd (n _ (present_too same i))
  one_fire (called i few a e) (FireSays.no_line j full f v) = absurd (never_full (same_back same) full few)
  one_fire {p} (called {e = event} {q = q} i few a e) (called {e = event'} {q = r} j few' b f) =
      let there = present_too same i in
      let one : event' ≡ event = present_once s event' event (reached_kept s ok k).sound j.present there.present (j.name ∙ sym i.name) in
      let step = one_step s st tt next after (call.Fire event) q r ok h k same a (subst (λ g. MachineStep s tt (call.Fire g) r after) one b) in
      (one_word e f (ap (fire_text p) step.0), step.1)

  -- the call to undo an event has one answer
  one_call : {p : Pair} (x y : Standing) {q r : Reply} → IsNamed st p x → IsNamed tt p y → MachineStep s st (call.Undo x.line) q next → MachineStep s tt (call.Undo y.line) r after → (q ≡ r) × AreSame next after
  one_call x y {q} {r} i j a b =
      let line : y.line ≡ x.line = ap (λ (z : Standing). z.line) (sym (named_once s ok h k same x y i j)) in
      one_step s st tt next after (call.Undo x.line) q r ok h k same a (subst (λ n. MachineStep s tt (call.Undo n) r after) line b)

  -- an undo
  pub one_undo : {p : Pair} {x y : List ℕ} → UndoSays s st p x next → UndoSays s tt p y after → (x ≡ y) × AreSame next after
  one_undo (UndoSays.no_event n e u) (UndoSays.no_event m f v) = (one_word e f refl, left_same same u v)
  one_undo (UndoSays.no_event n e u) (UndoSays.no_line i full f v) = absurd (n _ (named_too (same_back same) i))
  one_undo (UndoSays.no_event n e u) (undone i few a f) = absurd (n _ (named_too (same_back same) i))
  one_undo (UndoSays.no_event n e u) (held i few c a f) = absurd (n _ (named_too (same_back same) i))
  one_undo (UndoSays.no_line i full e u) (UndoSays.no_event n f v) = absurd (n _ (named_too same i))
  one_undo (UndoSays.no_line i full e u) (UndoSays.no_line j full' f v) = (one_word e f refl, left_same same u v)
  one_undo (UndoSays.no_line i full e u) (undone j few a f) = absurd (never_full same full few)
  one_undo (UndoSays.no_line i full e u) (held j few c a f) = absurd (never_full same full few)
  one_undo (undone i few a e) (UndoSays.no_event n f v) = absurd (n _ (named_too same i))
  one_undo (undone i few a e) (UndoSays.no_line j full f v) = absurd (never_full (same_back same) full few)
  one_undo (undone {y = z} i few a e) (undone {y = w} j few' b f) = (one_word e f refl, (one_call z w i j a b).1)
  one_undo (undone {y = z} i few a e) (held {y = w} {z = v} j few' c b f) = let r : reply.Undone ≡ reply.Held v.line = (one_call z w i j a b).0 in cc
  one_undo (held i few c a e) (UndoSays.no_event n f v) = absurd (n _ (named_too same i))
  one_undo (held i few c a e) (UndoSays.no_line j full f v) = absurd (never_full (same_back same) full few)
  one_undo (held {y = z} {z = v} i few c a e) (undone {y = w} j few' b f) = let r : reply.Held v.line ≡ reply.Undone = (one_call z w i j a b).0 in cc
  one_undo (held {y = z} {z = v} i few c a e) (held {y = w} {z = v'} j few' d b f) =
      let step = one_call z w i j a b in
      let holder : v ≡ v' = one_line (reached_kept s ok h) c (alike-in (alike_back same.standing) d) (ap line_of step.0) in
      (one_word e f (ap (λ (g : Standing). pair_line (codes "refused 32 held by ") (pair g.event)) holder), step.1)
