-- Listed events that are absorbed from states that are the same up to order.
use Rattle.std.proofs.Common.{◌≡◌, List, ◌∷◌, ◌⊎◌, inl, inr, refl, sym, ap, subst, ◌∙◌}
use Rattle.std.specs.Prelude.{reverse}
use Rattle.ic_name.specs.Events.{Event, Pair, pair}
use Rattle.ic_name.specs.declared.lines.Call.TheVariants.{Fire}
use Rattle.ic_name.specs.declared.lines.Reply.{Reply}
use Rattle.ic_name.specs.declared.lines.Reply.TheVariants.{Fired}
use Rattle.ic_name.proofs.NameOrder.{name_cmp_total, name_tied}
use Rattle.ic_path.specs.Orders.{IsIn}
use Rattle.ic_path.proofs.Alikes.{alike_back}
use Rattle.ic_path.proofs.Picks.{in_first, in-cons_cases}
use Rattle.ic_theory.specs.Starts.{Start, IsProper}
use Rattle.ic_theory.specs.Sound.{IsSound}
use Rattle.ic_theory.specs.Machine.{State, events, MachineStep, fired}
use Rattle.ic_theory.proofs.Machines.{fire_sound}
use Rattle.ic_theory.proofs.Normal.{active-alike}
use Rattle.ic_cause.proofs.OneFuture.{one_event}
use Rattle.ic_desk.specs.Absorbing.{IsLeastListed}
use Rattle.ic_desk.specs.Absorbs.{AreAbsorbed, none, more, NoneIsActive, IsRefused, TakesBack}
use Rattle.ic_desk.proofs.AbsorbedRuns.{listed-alike}
use Rattle.ic_session.specs.States.{IsReached}
use Rattle.ic_theory.specs.Machine.{AreSame}
use Rattle.ic_session.proofs.OneStep.{reached_next, one_step}
use Rattle.ic_session.proofs.SameStates.{reached_kept}
use Rattle.ic_session.proofs.UndoneRuns.{reached_undone, undone_once}
use Rattle.ic_name.proofs.Orderings.{neither_greater}
use Rattle.ic_theory.proofs.SameStates.{same_back, same_events}

-- the listed event whose turn it is is one
listed_once : (s : Start) → IsProper s → {es : List Event} {names : List Pair} (e f : Event) → IsSound s es → IsLeastListed s es names e → IsLeastListed s es names f → e ≡ f
listed_once s ok {es} e f sound h k =
    let tied = neither_greater _ _ (name_cmp_total.antisymm e.lead f.lead) (h.least f k.active k.listed) (k.least e h.active h.listed) in
    one_event s ok (fire_sound s ok sound h.active) (fire_sound s ok sound k.active) (in_first e es) (in_first f es) (inl refl) (inl (name_tied e.lead f.lead tied))

-- no further listed event is fired: none is active, or the next one is refused
pub data Ends (s : Start) (names : List Pair) (st : State) : Type 0 where
  all_done : NoneIsActive s st names → Ends s names st
  refused : {r : Reply} {next : State} → (r ≡ Fired → ⊥) → IsRefused s names st r next → Ends s names st

-- what is taken back leads on to a state within the limit
pub reached_taken_back : (s : Start) {st next : State} {came : List Event} → IsReached s st → TakesBack s st came next → IsReached s next
reached_taken_back s r t = reached_undone s r t.undid

module _ (s : Start) (names : List Pair) where
  -- so does what is absorbed to a state within the limit
  pub reached_absorbed : {st next : State} {came : List Event} → IsReached s st → AreAbsorbed s names st came next → IsReached s next
  reached_absorbed r none = r
  reached_absorbed r (more l few a f) = reached_absorbed (reached_next s r few a) f

  -- and what is refused
  pub reached_refused : {st next : State} {q : Reply} → IsReached s st → IsRefused s names st q next → IsReached s next
  reached_refused r h = reached_next s r h.room h.answer

  -- what stands then stood or is listed
  pub stood_or_listed : {st next : State} {came : List Event} → AreAbsorbed s names st came next → (e : Event) → IsIn e (events next) → IsIn e (events st) ⊎ IsIn (pair e) names
  stood_or_listed none e i = inl i
  stood_or_listed {st = st} (more {e = f} l few a h) e i = elim (stood_or_listed h e i) [ inl j ↦ by a j | inr k ↦ inr k ]
    where
      by : {mid : State} → MachineStep s st (Fire f) Fired mid → IsIn e (events mid) → IsIn e (events st) ⊎ IsIn (pair e) names
      by (fired x d n) j = elim (in-cons_cases j) [ inl same ↦ inr (subst (λ g. IsIn (pair g) names) (sym same) l.listed) | inr k ↦ inl k ]

module _ (s : Start) (ok : IsProper s) (names : List Pair) where
  -- the next one has one answer
  pub refused_once : {st tt next after : State} {q r : Reply} → IsReached s st → IsReached s tt → AreSame st tt → IsRefused s names st q next → IsRefused s names tt r after
      → (q ≡ r) × AreSame next after
  refused_once {st} {tt} {next} {after} {q} {r} h k same a b =
      let one : b.event ≡ a.event = listed_once s ok b.event a.event (reached_kept s ok k).sound b.turn (listed-alike s (same_events same) a.turn) in
      one_step s st tt next after (Fire a.event) q r ok h k same a.answer (subst (λ g. MachineStep s tt (Fire g) r after) one b.answer)

  -- where no further one is fired none is
  stuck : {st tt next : State} {e : Event} → IsReached s st → IsReached s tt → AreSame st tt → Ends s names st → IsLeastListed s (events tt) names e → MachineStep s tt (Fire e) Fired next → ⊥
  stuck h k same (all_done idle) l a = idle _ (active-alike s (alike_back (same_events same)) l.active) l.listed
  stuck {st} {tt} {next} {e} h k same (refused {r = r} {next = after} other b) l a =
      let one : e ≡ b.event = listed_once s ok e b.event (reached_kept s ok k).sound l (listed-alike s (same_events same) b.turn) in
      other (one_step s st tt after next (Fire b.event) r Fired ok h k same b.answer (subst (λ g. MachineStep s tt (Fire g) Fired next) one a)).0

  -- so the same events come, and lead to the same state
  pub absorbed_once : {st tt next after : State} {came come : List Event} → IsReached s st → IsReached s tt → AreSame st tt → AreAbsorbed s names st came next → AreAbsorbed s names tt come after
      → Ends s names next → Ends s names after → (came ≡ come) × AreSame next after
  absorbed_once h k same none none p q = (refl, same)
  absorbed_once h k same none (more l few a f) p q = absurd (stuck h k same p l a)
  absorbed_once h k same (more l few a f) none p q = absurd (stuck k h (same_back same) q l a)
  absorbed_once {st} {tt} h k same (more {mid = mid} {e = e} l few a f) (more {mid = mid'} {e = e'} l' few' a' f') p q =
      let one : e' ≡ e = listed_once s ok e' e (reached_kept s ok k).sound l' (listed-alike s (same_events same) l) in
      let step = one_step s st tt mid mid' (Fire e) Fired Fired ok h k same a (subst (λ g. MachineStep s tt (Fire g) Fired mid') one a') in
      let rest = absorbed_once (reached_next s h few a) (reached_next s k few' a') step.1 f f' p q in
      ((λ i. sym one i ∷ rest.0 i), rest.1)

  -- and taking them back leaves the same
  pub back_once : {st tt next after : State} {came come : List Event} → IsReached s st → IsReached s tt → AreSame st tt → came ≡ come → TakesBack s st came next → TakesBack s tt come after → AreSame next after
  back_once h k same e a b = undone_once s ok h k same (a.backwards ∙ ap reverse e ∙ sym b.backwards) a.undid b.undid
