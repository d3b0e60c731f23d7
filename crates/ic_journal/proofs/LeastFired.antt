-- The active pair with the least lead, and what firing it does.
use Rattle.std.proofs.Common.{◌≡◌, ◌≢◌, ℕ, Err, refl, sym, subst, arith, ◌∙◌}
use Rattle.ic_name.specs.Events.{Event}
use Rattle.ic_name.specs.declared.lines.Call.TheVariants as call
use Rattle.ic_name.specs.declared.lines.Reply.TheVariants as reply
use Rattle.ic_path.proofs.Alikes.{alike_back}
use Rattle.ic_theory.specs.Active.{IsActive}
use Rattle.ic_theory.specs.Machine.{State, events}
use Rattle.ic_theory.proofs.Machines.{history_length}
use Rattle.ic_theory.proofs.Normal.{active-alike}
use Rattle.ic_set.specs.Views.{standing}
use Rattle.ic_set.specs.Pairs.{IsLeastPair}
use Rattle.ic_set.specs.declared.pairs.ActivePair.{ActivePair}
use Rattle.ic_journal.specs.Views.{BenchView, set_of}
use Rattle.ic_journal.specs.Benches.{IsAt, IsBench}
use Rattle.ic_journal.specs.Calls.{Steps, Stays, FiresPair}
use Rattle.ic_journal.specs.declared.faults.PairFault.{PairFault}
use Rattle.ic_journal.specs.declared.faults.PairFault.TheVariants as fault
use Rattle.ic_journal.proofs.MachineSteps.{events_at}
use Rattle.ic_journal.specs.declared.reducing.end.End.TheVariants.{Normal, Budget, Limit, Memory}
use Rattle.ic_journal.specs.Reducing.{IsLeastActive, none, more, history_full, deep, full}
use Rattle.ic_journal.specs.Reduced.{Reduces, FiresLeast}
use Rattle.ic_journal.proofs.BenchSteps.{still_at, line_left}
use Rattle.ic_journal.proofs.Continuing.{still_continues, step_continues}
use Rattle.ic_journal.proofs.FiredInTurn.{HasFired}

-- a bench shows that an event is active, and has the least lead
abbrev pub IsLeastAt : BenchView → Event → Type 0
IsLeastAt v e = (st : State) → IsAt v st → IsLeastActive v.start (events st) e

-- where no pair is active none is in the machine
pub normal_at : (v : BenchView) → ((e : Event) → IsActive v.start (standing (set_of v)) e → ⊥) → (st : State)
    → IsAt v st → (e : Event) → IsActive v.start (events st) e → ⊥
normal_at v idle st at e a = idle e (active-alike v.start (alike_back (events_at v at)) a)

-- the event of the pair that was found is active and has the least lead
pub least_at : (v : BenchView) (p : ActivePair) (l : IsLeastPair (set_of v) p) → IsLeastAt v l.event
least_at v p l st at = record {
  active = active-alike v.start (events_at v at) l.pair.active;
  least = λ f a. l.least f (active-alike v.start (alike_back (events_at v at)) a);
}

-- nothing was fired, and a bench stays
pub stays_normal : (v : BenchView) → ((e : Event) → IsActive v.start (standing (set_of v)) e → ⊥)
    → Reduces v 1 0 Normal v
stays_normal v idle = record { start = refl; continues = still_continues v v refl; reduced = λ st at. (st, (none, omega arith, normal_at v idle st at), at) }

pub stays_wanting : (v : BenchView) (p : ActivePair) → IsLeastPair (set_of v) p → Reduces v 1 0 Memory v
stays_wanting v p l = record {
  start = refl;
  continues = still_continues v v refl;
  reduced = λ st at. (st, (none, omega arith, (l.event, (least_at v p l st at).active)), at);
}

pub still_wanting : (old new : BenchView) (e : Event) → IsLeastAt old e → Stays old new → Reduces old 1 0 Memory new
still_wanting old new e least stays = record {
  start = stays.same.start;
  continues = still_continues old new stays.lines;
  reduced = λ st at. (st, (none, omega arith, (e, (least st at).active)), still_at old new stays st at);
}

-- the event was fired
pub fires_least : (old new : BenchView) (e : Event) → IsLeastAt old e → IsBench new
    → Steps old (call.Fire e) reply.Fired new → FiresLeast old new
fires_least old new e least bench steps = record {
  start = steps.start;
  continues = step_continues old new e reply.Fired steps;
  fired = λ st at. (let step = steps.step st at in (step.0, more (least st at) (line_left old new (call.Fire e) reply.Fired bench steps st at) step.1 none, step.2));
}

-- or its firing met a limit
pub meets_limit : (old new : BenchView) (e : Event) → IsLeastAt old e → IsBench new → (f : PairFault) → f ≢ fault.Memory → FiresPair old e (Err f) new → Reduces old 1 0 Limit new
meets_limit old new e least bench fault.Deep room fires = record {
  start = fires.0.start;
  continues = step_continues old new e reply.Deep fires.0;
  reduced = λ st at. (
      let step = fires.0.step st at in
      (step.0, (st, none, omega arith, deep (least st at) (line_left old new (call.Fire e) reply.Deep bench fires.0 st at) step.1), step.2)
      );
}
meets_limit old new e least bench fault.Full room fires = record {
  start = fires.0.start;
  continues = step_continues old new e reply.Full fires.0;
  reduced = λ st at. (
      let step = fires.0.step st at in
      (step.0, (st, none, omega arith, full (least st at) (line_left old new (call.Fire e) reply.Full bench fires.0 st at) step.1), step.2)
      );
}
meets_limit old new e least bench fault.HistoryFull room fires = subst (λ (v : BenchView). Reduces old 1 0 Limit v) (sym fires.1) (record {
  start = refl;
  continues = still_continues old old refl;
  reduced = λ st at. (st, (st, none, omega arith, history_full (least st at) (history_length at.history ∙ fires.0)), at);
})
meets_limit old new e least bench fault.Memory room fires = absurd (room refl)

-- no event was fired yet
pub none_fired : (v : BenchView) → HasFired v 0 v
none_fired v = record { start = refl; continues = still_continues v v refl; fired = λ st at. (st, none, at) }

-- as many were fired as were to be
pub all_fired : (old new : BenchView) (most n : ℕ) (p : ActivePair) → n ≡ most → HasFired old n new
    → IsLeastPair (set_of new) p → Reduces old most most Budget new
all_fired old new most n p same h l = record {
  start = h.start;
  continues = all.continues;
  reduced = λ st at. (
      let r = all.fired st at in
      let active = (least_at new p l r.0 r.2).active in
      (r.0, (r.1, refl, (l.event, subst (λ s. IsActive s (events r.0) l.event) h.start active)), r.2)
      );
}
  where
    all : HasFired old most new
    all = subst (λ k. HasFired old k new) same h

-- and then no pair is active
pub all_fired_normal : (old new : BenchView) (most n : ℕ) → n ≡ most → HasFired old n new
    → ((e : Event) → IsActive new.start (standing (set_of new)) e → ⊥) → Reduces old most most Normal new
all_fired_normal old new most n same h idle = record {
  start = h.start;
  continues = all.continues;
  reduced = λ st at. (
      let r = all.fired st at in
      (r.0, (r.1, omega arith, λ e a. normal_at new idle r.0 r.2 e (subst (λ s. IsActive s (events r.0) e) (sym h.start) a)), r.2)
      );
}
  where
    all : HasFired old most new
    all = subst (λ k. HasFired old k new) same h
