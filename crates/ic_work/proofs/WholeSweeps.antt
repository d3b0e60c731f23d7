-- What a sweep does to a bench: what the workers did, and then what was fired in the order of one worker.
use Rattle.std.proofs.Common.{◌≡◌, ℕ, ◌+◌, ◌≤◌, ◌++◌, inl, inr, refl, sym, subst, arith, ◌∙◌}
use Rattle.ic_name.specs.Events.{Event}
use Rattle.ic_path.specs.Orders.{Alike}
use Rattle.ic_path.proofs.Alikes.{alike_back}
use Rattle.ic_theory.specs.Starts.{Start}
use Rattle.ic_theory.specs.Machine.{State, events}
use Rattle.ic_theory.specs.Machine as machine
use Rattle.ic_theory.proofs.Machines.{history_length}
use Rattle.ic_theory.proofs.Normal.{active-alike}
use Rattle.ic_theory.proofs.NormalEnds.{normal_part}
use Rattle.ic_set.specs.Views.{standing}
use Rattle.ic_journal.specs.Views.{BenchView, set_of}
use Rattle.ic_journal.specs.Benches.{IsAt, IsBench}
use Rattle.ic_journal.proofs.MachineSteps.{events_at}
use Rattle.ic_journal.proofs.SameSets.{full-alike}
use Rattle.ic_journal.specs.declared.reducing.end.End.{End}
use Rattle.ic_journal.specs.declared.reducing.end.End.TheVariants.{Normal, Budget, Limit, Memory}
use Rattle.ic_journal.specs.Reduced.{IsReduced, Reduces}
use Rattle.ic_journal.specs.Reducing.{AreFiredInTurn, IsLeastActive}
use Rattle.ic_journal.specs.Reducing as turn
use Rattle.ic_journal.proofs.Continuing.{then_continues}
use Rattle.ic_work.proofs.FiredByWorkers.{FiredByWorkers}
use Rattle.ic_work.specs.Sweeps.{MeetsLimit, Ends, Sweeps}
use Rattle.ic_work.proofs.Extending.{extends, then_extends}
use Rattle.ic_work.proofs.FiringRuns.{Adds, turns_add}

-- the same events stand where a limit is met
limit_keeps : {s : Start} {st next : State} → turn.MeetsLimit s st next → events next ≡ events st
limit_keeps (turn.history_full l e) = refl
limit_keeps (turn.deep l few (machine.deep a d)) = refl
limit_keeps (turn.full l few (machine.full a d f)) = refl

-- so many events are added, and no more than there were to be fired
reduced_adds : (s : Start) (st next : State) (most n : ℕ) (end : End) → IsReduced s st most n end next → Adds n st next
reduced_adds s st next most n Normal h = turns_add h.0
reduced_adds s st next most n Budget h = turns_add h.0
reduced_adds s st next most n Limit h =
    let k = turns_add h.1 in
    record { fresh = k.fresh; count = k.count; events = subst (λ es. Alike (k.fresh ++ events st) es) (sym (limit_keeps h.3)) k.events }
reduced_adds s st next most n Memory h = turns_add h.0

reduced_few : (s : Start) (st next : State) (most n : ℕ) (end : End) → IsReduced s st most n end next → n ≤ most
reduced_few s st next most n Normal h = h.1
reduced_few s st next most n Budget h = let e = h.1 in omega (arith, e)
reduced_few s st next most n Limit h = let l = h.2 in omega (arith, l)
reduced_few s st next most n Memory h = let l = h.1 in omega (arith, l)

module _ (v : BenchView) (bench : IsBench v) where
  -- the active pair with the least lead is so on the bench
  least_at : {st : State} {e : Event} → IsAt v st → IsLeastActive v.start (events st) e → IsLeastActive v.start (standing (set_of v)) e
  least_at at l = record {
    active = active-alike v.start (alike_back (events_at v at)) l.active;
    least = λ f a. l.least f (active-alike v.start (events_at v at) a);
  }

  -- a limit that the machine meets the bench meets
  limit_at : {st next : State} → IsAt v next → turn.MeetsLimit v.start st next → MeetsLimit v
  limit_at at (turn.history_full {e = e} l full) = record { event = e; least = least_at at l; limit = inl (sym (history_length at.history) ∙ full) }
  limit_at at (turn.deep {e = e} l few (machine.deep a d)) = record { event = e; least = least_at at l; limit = inr (inl d) }
  limit_at at (turn.full {e = e} l few (machine.full a d f)) = record { event = e; least = least_at at l; limit = inr (inr (full-alike v.start e (alike_back (events_at v at)) f)) }

  -- why no more events are fired
  ends_at : (st next : State) (budget by_workers left by_one : ℕ) (end : End) → budget ≡ by_workers + left → IsAt v next → IsReduced v.start st left by_one end next → Ends v budget (by_workers + by_one) end
  ends_at st next budget by_workers left by_one Normal e at h = λ f a. h.2 f (active-alike v.start (events_at v at) a)
  ends_at st next budget by_workers left by_one Budget e at h = (let m = h.1 in omega (arith, m), (h.2.0, active-alike v.start (alike_back (events_at v at)) h.2.1))
  ends_at st next budget by_workers left by_one Limit e at h = (let l = h.2 in omega (arith, l), limit_at at h.3)
  ends_at st next budget by_workers left by_one Memory e at h = (let l = h.1 in omega (arith, l), (h.2.0, active-alike v.start (alike_back (events_at v at)) h.2.1))

-- the workers' part and the rest
pub sweeps : (old mid new : BenchView) (budget by_workers left by_one : ℕ) (end : End) → IsBench mid → IsBench new → FiredByWorkers old budget by_workers mid
    → budget ≡ by_workers + left → Reduces mid left by_one end new → Sweeps old budget (by_workers + by_one) end new
sweeps old mid new budget by_workers left by_one end bench bench' fired shared rest = record {
  start = rest.start ∙ fired.start;
  extends = then_extends old mid new by_workers by_one fired.extends (extends mid new bench.running.at last.2 (reduced_adds mid.start bench.running.state last.0 left by_one end last.1));
  continues = then_continues old mid new by_workers by_one fired.continues rest.continues;
  within = (let few = reduced_few mid.start bench.running.state last.0 left by_one end last.1 in omega arith);
  ends = ends;
  whole = λ is es sound. normal_part new.start bench'.set.proper sound bench'.set.sound (subst (λ x. Ends new budget (by_workers + by_one) x) is ends);
  swept = λ st at. (
      let one = fired.fired st at in
      let two = rest.reduced one.0 one.2 in (
        two.0,
        record {
          lines = fired.continues.added;
          by_workers = by_workers;
          left = left;
          by_one = by_one;
          mid = one.0;
          firings = one.1;
          few = fired.few;
          rest = subst (λ s. IsReduced s one.0 left by_one end two.0) fired.start two.1;
          shared_out = shared;
          together = refl;
        },
        two.2,
      ));
}
  where
    last : (next : State) × IsReduced mid.start bench.running.state left by_one end next × IsAt new next
    last = rest.reduced bench.running.state bench.running.at

    ends : Ends new budget (by_workers + by_one) end
    ends = ends_at new bench' bench.running.state last.0 budget by_workers left by_one end shared last.2 (subst (λ s. IsReduced s bench.running.state left by_one end last.0) (sym rest.start) last.1)
