-- The firing of active pairs in turn has one answer, and leaves one state up to order.
use Rattle.std.proofs.Common.{◌≡◌, ℕ, ◌≤◌, ◌<◌, List, refl, ap, arith}
use Rattle.std.specs.Prelude.{codes}
use Rattle.ic_name.specs.Events.{Event}
use Rattle.ic_name.specs.declared.lines.Reply.TheVariants.{Fired}
use Rattle.ic_theory.specs.Active.{IsActive}
use Rattle.ic_theory.specs.Starts.{Start, IsProper}
use Rattle.ic_theory.specs.Machine.{State, events}
use Rattle.ic_theory.proofs.Normal.{active-alike}
use Rattle.ic_journal.specs.Reducing.{IsNormal, AreFiredInTurn, MeetsLimit}
use Rattle.ic_session.specs.States.{IsReached}
use Rattle.ic_theory.specs.Machine.{AreSame}
use Rattle.ic_answer.specs.Texts.{reduced_text}
use Rattle.ic_session.proofs.FiredRuns.{Tries, Compare, level, shorter, longer, compare, reached_fired, limit_stops, limit_active, limit_once}
use Rattle.ic_session.proofs.OneQuery.{one_word}
use Rattle.ic_session.proofs.Saying.{ReduceSays, normal, budget, limit}
use Rattle.ic_theory.proofs.SameStates.{same_back, same_events}

-- a run ends here: it has at most so many firings, and fewer only where no further one follows
record Ends (s : Start) (most n : ℕ) (st : State) : Type 0 where
  within : n ≤ most
  stops : n < most → Tries s st Fired → ⊥

-- where no pair is active none is fired
normal_stops : (s : Start) {st : State} → IsNormal s (events st) → Tries s st Fired → ⊥
normal_stops s n t = n t.event t.least.active

module _ (s : Start) (ok : IsProper s) {st tt : State} (h : IsReached s st) (k : IsReached s tt) (same : AreSame st tt) where
  -- two runs that end are equally long, and end in the same state
  one_end : {most m n : ℕ} {mid mid' : State} → AreFiredInTurn s m st mid → AreFiredInTurn s n tt mid' → Ends s most m mid → Ends s most n mid' → (m ≡ n) × AreSame mid mid'
  one_end {most} {m} {n} {mid} {mid'} f g a b = by (compare s ok h k same f g)
    where
      by : Compare s m n mid mid' → (m ≡ n) × AreSame mid mid'
      by (level e end) = (e, end)
      by (shorter l t) = let w = b.within in absurd (a.stops (omega (arith, l, w)) t)
      by (longer l t) = let w = a.within in absurd (b.stops (omega (arith, l, w)) t)

  -- a pair can't be active at one end and none at the other
  never_normal : {mid mid' : State} → AreSame mid mid' → IsNormal s (events mid) → (e : Event) → IsActive s (events mid') e → ⊥
  never_normal end n e a = n e (active-alike s (same_events (same_back end)) a)

  -- the ends of the three kinds
  at_normal : {most n : ℕ} {mid : State} → n ≤ most → IsNormal s (events mid) → Ends s most n mid
  at_normal l n = record { within = l; stops = λ m t. normal_stops s n t }

  at_budget : {most : ℕ} {mid : State} → Ends s most most mid
  at_budget = record { within = omega arith; stops = λ m t. omega (arith, m) }

  at_limit : {most n : ℕ} {mid next : State} → IsReached s mid → n < most → MeetsLimit s mid next → Ends s most n mid
  at_limit r l m = record { within = omega (arith, l); stops = λ i t. limit_stops s ok r m t }

  -- the firing of active pairs in turn
  pub one_reduce : {most : ℕ} {next after : State} {x y : List ℕ} → ReduceSays s st most x next → ReduceSays s tt most y after → (x ≡ y) × AreSame next after
  one_reduce (normal f l n e) (normal g m o d) = let end = one_end f g (at_normal l n) (at_normal m o) in (one_word e d (ap (λ i. reduced_text i (codes "normal")) end.0), end.1)
  one_reduce (normal f l n e) (budget {e = v} g a d) = let end = one_end f g (at_normal l n) at_budget in absurd (never_normal end.1 n v a)
  one_reduce (normal f l n e) (limit g m o d) =
      let end = one_end f g (at_normal l n) (at_limit (reached_fired s k g) m o) in
      let a = limit_active s ok o in
      absurd (never_normal end.1 n a.0 a.1)
  one_reduce (budget {e = v} f a e) (normal g m o d) = let end = one_end f g at_budget (at_normal m o) in absurd (never_normal (same_back end.1) o v a)
  one_reduce (budget f a e) (budget g b d) = let end = one_end f g at_budget at_budget in (one_word e d refl, end.1)
  one_reduce (budget f a e) (limit g m o d) = let end = one_end f g at_budget (at_limit (reached_fired s k g) m o) in let i = end.0 in absurd (omega (arith, i, m))
  one_reduce (limit f l n e) (normal g m o d) =
      let end = one_end f g (at_limit (reached_fired s h f) l n) (at_normal m o) in
      let a = limit_active s ok n in
      absurd (never_normal (same_back end.1) o a.0 a.1)
  one_reduce (limit f l n e) (budget g b d) = let end = one_end f g (at_limit (reached_fired s h f) l n) at_budget in let i = end.0 in absurd (omega (arith, i, l))
  one_reduce (limit f l n e) (limit g m o d) =
      let r = reached_fired s h f in
      let q = reached_fired s k g in
      let end = one_end f g (at_limit r l n) (at_limit q m o) in
      (one_word e d (ap (λ i. reduced_text i (codes "limit")) end.0), limit_once s ok r q end.1 n o)
