-- Active pairs that are fired in turn from states that are the same up to order.
use Rattle.std.proofs.Common.{◌≡◌, ℕ, ◌+◌, ◌<◌, refl, ap, subst, arith}
use Rattle.ic_name.specs.Events.{Event}
use Rattle.ic_name.specs.declared.limits.TheConstants.{MAX_LINES}
use Rattle.ic_name.specs.declared.lines.Call.TheVariants.{Fire}
use Rattle.ic_name.specs.declared.lines.Reply.{Reply}
use Rattle.ic_name.specs.declared.lines.Reply.TheVariants.{Fired, Deep, Full}
use Rattle.ic_theory.specs.Starts.{Start, IsProper}
use Rattle.ic_theory.specs.Active.{IsActive}
use Rattle.ic_theory.specs.Machine.{State, events, MachineStep}
use Rattle.ic_journal.specs.Reducing.{IsLeastActive, AreFiredInTurn, none, more, MeetsLimit, history_full, deep, full}
use Rattle.ic_session.specs.States.{IsReached}
use Rattle.ic_theory.specs.Machine.{AreSame}
use Rattle.ic_session.proofs.OneEvent.{least_active-alike, least_active_once}
use Rattle.ic_session.proofs.OneStep.{reached_next, one_step}
use Rattle.ic_session.proofs.SameStates.{reached_kept}
use Rattle.ic_theory.proofs.SameStates.{same_self, same_back, same_events}
use Rattle.ic_work.proofs.SameStates.{moved}

-- the active pair with the least lead can be fired, and this is the answer
pub record Tries (s : Start) (st : State) (q : Reply) : Type 0 where
  pub event : Event
  pub least : IsLeastActive s (events st) event
  pub few : st.lines < MAX_LINES
  pub next : State
  pub answer : MachineStep s st (Fire event) q next

-- so it is in each state that is the same
tries_moved : (s : Start) {st tt : State} {q : Reply} → AreSame st tt → Tries s st q → Tries s tt q
tries_moved s same t =
    let l = same.lines in
    let few = t.few in
    let m = moved s same t.answer in
    record { event = t.event; least = least_active-alike s (same_events same) t.least; few = omega (arith, l, few); next = m.state; answer = m.answer }

-- how two runs compare: they are equally long and end in the same state, or one goes on where the other one ends
pub data Compare (s : Start) (m n : ℕ) (next after : State) : Type 0 where
  level : m ≡ n → AreSame next after → Compare s m n next after
  shorter : m < n → Tries s next Fired → Compare s m n next after
  longer : n < m → Tries s after Fired → Compare s m n next after

-- one firing more in front of both
compare_more : {s : Start} {m n : ℕ} {next after : State} → Compare s m n next after → Compare s (m + 1) (n + 1) next after
compare_more (level e same) = level (ap (λ k. k + 1) e) same
compare_more (shorter l t) = shorter (omega arith) t
compare_more (longer l t) = longer (omega arith) t

module _ (s : Start) where
  -- they lead on to a state within the limit
  pub reached_fired : {n : ℕ} {st next : State} → IsReached s st → AreFiredInTurn s n st next → IsReached s next
  reached_fired r none = r
  reached_fired r (more l few a f) = reached_fired (reached_next s r few a) f

  -- so does the try that meets a limit
  pub reached_limit : {st next : State} → IsReached s st → MeetsLimit s st next → IsReached s next
  reached_limit r (history_full a e) = r
  reached_limit r (deep l few a) = reached_next s r few a
  reached_limit r (full l few a) = reached_next s r few a

module _ (s : Start) (ok : IsProper s) where
  -- the event that is tried is one, so one answer is given
  tries_once : {st tt next after : State} {e f : Event} {q r : Reply} → IsReached s st → IsReached s tt → AreSame st tt → IsLeastActive s (events st) e → IsLeastActive s (events tt) f
      → MachineStep s st (Fire e) q next → MachineStep s tt (Fire f) r after → (q ≡ r) × AreSame next after
  tries_once {st} {tt} {next} {after} {e} {f} {q} {r} h k same l m a b =
      let one : f ≡ e = least_active_once s ok f e (reached_kept s ok k).sound m (least_active-alike s (same_events same) l) in
      one_step s st tt next after (Fire e) q r ok h k same a (subst (λ g. MachineStep s tt (Fire g) r after) one b)

  -- two runs compare
  pub compare : {m n : ℕ} {st tt next after : State} → IsReached s st → IsReached s tt → AreSame st tt → AreFiredInTurn s m st next → AreFiredInTurn s n tt after → Compare s m n next after
  compare h k same none none = level refl same
  compare h k same none (more l few a f) = shorter (omega arith) (tries_moved s (same_back same) (record { event = _; least = l; few = few; next = _; answer = a }))
  compare h k same (more l few a f) none = longer (omega arith) (tries_moved s same (record { event = _; least = l; few = few; next = _; answer = a }))
  compare h k same (more l few a f) (more l' few' a' f') =
      let one = tries_once h k same l l' a a' in
      compare_more (compare (reached_next s h few a) (reached_next s k few' a') one.1 f f')

  -- where a limit is met no event is fired
  pub limit_stops : {st next : State} → IsReached s st → MeetsLimit s st next → Tries s st Fired → ⊥
  limit_stops r (history_full a e) t = let few = t.few in absurd (omega (arith, e, few))
  limit_stops {st} r (deep l few a) t = let one = tries_once r r (same_self st) l t.least a t.answer in let e : ◌≡◌ {A = Reply} Deep Fired = one.0 in cc
  limit_stops {st} r (full l few a) t = let one = tries_once r r (same_self st) l t.least a t.answer in let e : ◌≡◌ {A = Reply} Full Fired = one.0 in cc

  -- an active pair is there
  pub limit_active : {st next : State} → MeetsLimit s st next → (e : Event) × IsActive s (events st) e
  limit_active (history_full a e) = (_, a.active)
  limit_active (deep l few a) = (_, l.active)
  limit_active (full l few a) = (_, l.active)

  -- a limit is met in one way
  pub limit_once : {st tt next after : State} → IsReached s st → IsReached s tt → AreSame st tt → MeetsLimit s st next → MeetsLimit s tt after → AreSame next after
  limit_once h k same (history_full a e) (history_full b f) = same
  limit_once h k same (history_full a e) (deep l few b) = let n = same.lines in absurd (omega (arith, n, e, few))
  limit_once h k same (history_full a e) (full l few b) = let n = same.lines in absurd (omega (arith, n, e, few))
  limit_once h k same (deep l few a) (history_full b f) = let n = same.lines in absurd (omega (arith, n, f, few))
  limit_once h k same (deep l few a) (deep l' few' b) = (tries_once h k same l l' a b).1
  limit_once h k same (deep l few a) (full l' few' b) = (tries_once h k same l l' a b).1
  limit_once h k same (full l few a) (history_full b f) = let n = same.lines in absurd (omega (arith, n, f, few))
  limit_once h k same (full l few a) (deep l' few' b) = (tries_once h k same l l' a b).1
  limit_once h k same (full l few a) (full l' few' b) = (tries_once h k same l l' a b).1
