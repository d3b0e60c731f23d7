-- What depends on a standing event was fired after it.
use Rattle.std.proofs.Common.{◌≡◌, ℕ, ◌+◌, ◌<◌, List, [], ◌∷◌, ◌++◌, length, ◌⊎◌, inl, inr, ap, subst, arith}
use Rattle.ic_name.specs.Events.{Event}
use Rattle.ic_name.specs.declared.limits.TheConstants.{MAX_LINES}
use Rattle.ic_name.specs.declared.lines.Call.{Call}
use Rattle.ic_name.specs.declared.lines.Call.TheVariants.{Undo}
use Rattle.ic_name.specs.declared.lines.Line.{Line}
use Rattle.ic_name.specs.declared.lines.Reply.{Reply}
use Rattle.ic_name.specs.declared.lines.Reply.TheVariants.{Undone, Held}
use Rattle.ic_path.specs.Orders.{Pick, IsIn, Alike}
use Rattle.ic_path.proofs.Alikes.{alike_back, alike-cons, alike-in, picked_alike}
use Rattle.ic_path.proofs.InLists.{in-map}
use Rattle.ic_path.proofs.Picks.{in_picked, in-cons_cases, pick-map}
use Rattle.ic_theory.specs.Starts.{Start, IsProper}
use Rattle.ic_theory.specs.Active.{IsActive}
use Rattle.ic_theory.specs.Causes.{IsCause}
use Rattle.ic_theory.specs.Firings.{IsFired, fired}
use Rattle.ic_theory.specs.Machine.{Standing, State, events, MachineStep, not_active, deep, full, fired as fired_now, not_standing, held, undone, IsHistory, begins, goes_on}
use Rattle.ic_theory.proofs.Closed.{cause_stays}
use Rattle.ic_theory.proofs.Future.{includes_self, includes_more}
use Rattle.ic_theory.proofs.Machines.{IsKept, fire_sound, history_kept}
use Rattle.ic_theory.proofs.Normal.{last_free, active-alike}
use Rattle.ic_theory.proofs.Ranks.{sound_order, cause_included}
use Rattle.ic_theory.proofs.SameStates.{cause-alike}
use Rattle.ic_answer.specs.Unstepped.{IsLastFired, AreUnstepped, none, more}

-- each standing event was fired after its direct causes
abbrev pub ComeAfterCauses : Start → State → Type 0
ComeAfterCauses s st = (x y : Standing) → IsIn x st.standing → IsIn y st.standing → IsCause s (events st) y.event x.event → x.line < y.line

module _ (s : Start) (ok : IsProper s) where
  -- so it is with one more that is fired
  after_fired : {st : State} {e : Event} → IsKept s st → ComeAfterCauses s st → IsActive s (events st) e → ComeAfterCauses s (record { standing = record { event = e; line = st.lines } ∷ st.standing; lines = st.lines + 1 })
  after_fired {st} {e} k h a x y i j c = by (in-cons_cases i) (in-cons_cases j)
    where
      new : Standing
      new = record { event = e; line = st.lines }

      no_cause : x ≡ new → ⊥
      no_cause q =
          let o = sound_order s ok (events st) k.sound in
          let f : IsFired s (e ∷ o.0) = fired o.2 (active-alike s o.1 a) in
          let same : Alike (e ∷ events st) (e ∷ o.0) = alike-cons e o.1 in
          last_free s ok f y.event (alike-in same (in-map (λ (z : Standing). z.event) j)) (cause-alike s same (subst (λ (z : Standing). IsCause s (e ∷ events st) y.event z.event) q c))

      by : (x ≡ new) ⊎ IsIn x st.standing → (y ≡ new) ⊎ IsIn y st.standing → x.line < y.line
      by (inl q) m = absurd (no_cause q)
      by (inr n) (inl r) = let below = k.below x n in let line : y.line ≡ st.lines = ap (λ (z : Standing). z.line) r in omega (arith, below, line)
      by (inr n) (inr m) = h x y n m (cause_stays s ok (fire_sound s ok k.sound a).apart (includes_more e (includes_self (events st))) k.sound (in-map (λ (z : Standing). z.event) m) c)

  -- and without one that is undone
  after_undone : (st : State) {z : Standing} {rest : List Standing} → ComeAfterCauses s st → Pick z st.standing rest → ComeAfterCauses s (record { standing = rest; lines = st.lines + 1 })
  after_undone st {z} {rest} h p x y i j c = h x y (in_picked p i) (in_picked p j) (cause_included s (record { others = z.event ∷ []; alike = alike_back (picked_alike (pick-map (λ (w : Standing). w.event) p)) }) c)

  -- so it is after each answer
  after_next : {st next : State} {call : Call} {reply : Reply} → IsKept s st → ComeAfterCauses s st → MachineStep s st call reply next → ComeAfterCauses s next
  after_next k h (not_active n) = h
  after_next k h (deep a d) = h
  after_next k h (full a d n) = h
  after_next k h (fired_now a d n) = after_fired k h a
  after_next k h (not_standing n) = h
  after_next k h (held i j m l) = h
  after_next {st} k h (undone p j n) = after_undone st h p

  -- and after a legal history
  pub come_after_causes : {lines : List Line} {st : State} → IsHistory s lines st → ComeAfterCauses s st
  come_after_causes begins = λ x y i. elim i.1 [ ]
  come_after_causes (goes_on h a) = after_next (history_kept s ok h) (come_after_causes h) a

  -- so no event holds the one that was fired last
  pub last_not_held : {lines : List Line} {st next : State} {x : Standing} {line by : ℕ} → IsHistory s lines st → IsLastFired st x → line ≡ x.line → MachineStep s st (Undo line) (Held by) next → ⊥
  last_not_held h last same (held {x = y} {y = z} i e j d) =
      let before = come_after_causes h y z i j d.dependent.1 in
      let after = last.last z j in
      omega (arith, before, after, e, same)

module _ {s : Start} where
  -- an event more is undone
  pub unstepped_last : {st mid next : State} {x : Standing} {es : List Event} → AreUnstepped s st es mid → IsLastFired mid x → mid.lines < MAX_LINES → MachineStep s mid (Undo x.line) Undone next → AreUnstepped s st (es ++ x.event ∷ []) next
  unstepped_last none last few step = more last few step none
  unstepped_last (more l f a u) last few step = more l f a (unstepped_last u last few step)

  -- each undo adds a line
  pub unstepped_lines : {st next : State} {es : List Event} → AreUnstepped s st es next → next.lines ≡ st.lines + length es
  unstepped_lines none = omega arith
  unstepped_lines (more l f (undone p i n) u) = let rest = unstepped_lines u in omega (arith, rest)
