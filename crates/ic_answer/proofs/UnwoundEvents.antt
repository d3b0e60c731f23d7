-- The events that are undone at once, as the machine has them.
use Rattle.std.proofs.Common.{◌≡◌, List, map, inr, refl, sym, ap, subst, arith}
use Rattle.std.proofs.lemmas.List.{length-map}
use Rattle.ic_name.specs.Events.{Event}
use Rattle.ic_path.specs.Orders.{IsIn}
use Rattle.ic_path.proofs.Alikes.{alike_back, alike-in}
use Rattle.ic_path.proofs.InLists.{in-map, map_cases}
use Rattle.ic_theory.specs.Causes.{IsCause}
use Rattle.ic_theory.specs.Machine.{State, events}
use Rattle.ic_theory.proofs.Machines.{history_length}
use Rattle.ic_theory.proofs.Ranks.{cause_included, same_set}
use Rattle.ic_roster.specs.Rosters.{Stander}
use Rattle.ic_set.specs.Views.{standing}
use Rattle.ic_set.specs.Orders.{IsAny}
use Rattle.ic_set.proofs.Namings.{same_stander}
use Rattle.ic_journal.specs.Views.{BenchView, set_of}
use Rattle.ic_journal.specs.Benches.{IsAt, IsBench, fired_in}
use Rattle.ic_journal.proofs.MachineSteps.{events_at, fired_events}
use Rattle.ic_undo.specs.Undone as bench
use Rattle.ic_undo.specs.Unwinding as bench_faults
use Rattle.ic_answer.specs.Unwinding.{RestsOn, itself, through, AreLastFirst, DontFit, events_of}
use Rattle.ic_answer.proofs.Images.{each_image}
use Rattle.ic_theory.proofs.Restored.{rank-alike}
use Rattle.ic_undo.proofs.RestingCauses.{same_line}

module _ (v : BenchView) (ok : IsBench v) {st : State} (at : IsAt v st) where
  -- a property of standing events by their ids, and one of events, that say the same
  pub record SaysSame (P : Stander → Type 0) (Q : Event → Type 0) : Type 0 where
    pub to : (x : Stander) → IsIn x v.events → P x → Q x.event
    pub from : (x : Stander) → IsIn x v.events → Q x.event → P x

  -- the events with such a property are the machine's
  pub last_first_at : (P : Stander → Type 0) (Q : Event → Type 0) → SaysSame P Q → (xs : List Stander)
      → bench.AreLastFirst v P xs → AreLastFirst v.start (events st) Q (events_of (map fired_in xs))
  last_first_at P Q same xs h = subst (λ es. AreLastFirst v.start (events st) Q es) (sym (fired_events xs)) (record {
    each = each_image (λ (y : Stander). y.event) (λ y. IsIn y v.events × P y) (λ e. IsIn e (events st) × Q e) xs h.each
        found
        (λ y k. (alike-in (events_at v at) (in-map (λ (z : Stander). z.event) k.0), same.to y k.0 k.1))
        (λ y z k l e. same_stander v.events y z ok.set.own_lines k.0 l.0 (inr e));
    backwards = λ rank r. h.backwards rank (rank-alike v.start rank (alike_back (events_at v at)) r);
  })
    where
      found : (e : Event) → IsIn e (events st) × Q e → (y : Stander) × (IsIn y v.events × P y) × (y.event ≡ e)
      found e q =
          let m = map_cases (λ (y : Stander). y.event) v.events (alike-in (alike_back (events_at v at)) q.0) in
          (m.0, (m.1, same.from m.0 m.1 (subst Q (sym m.2) q.1)), m.2)

  -- where a line for each of them doesn't fit, none does for those of the machine
  pub dont_fit_at : (P : Stander → Type 0) (Q : Event → Type 0) → SaysSame P Q → bench_faults.DontFit v P
      → (es : List Event) × AreLastFirst v.start (events st) Q es × DontFit st es
  dont_fit_at P Q same h =
      let count = history_length at.history in
      let fired = length-map h.0 fired_in in
      let named = length-map (map fired_in h.0) (λ x. x.event) in
      let many = h.2 in
      (events_of (map fired_in h.0), last_first_at P Q same h.0 h.1, omega (arith, count, fired, named, many))

  -- all events
  pub any_same : SaysSame IsAny (λ e. Unit {0})
  any_same = record { to = λ x i p. tt; from = λ x i q. tt }

  -- what rests on an event
  pub resting_same : (x : Stander) → IsIn x v.events
      → SaysSame (bench.RestsOn v x.id.line) (RestsOn v.start (events st) x.event)
  resting_same x i = record { to = to; from = λ y j q. from q y j refl }
    where
      to : (y : Stander) → IsIn y v.events → bench.RestsOn v x.id.line y → RestsOn v.start (events st) x.event y.event
      to y j (bench.itself e) = subst (λ (z : Stander). RestsOn v.start (events st) x.event z.event) (same_line v.events x y ok.set.own_lines i j (sym e)) itself
      to y j (bench.through {y = z} k r c) =
          through (alike-in (events_at v at) (in-map (λ (w : Stander). w.event) k)) (to z k r) (cause_included v.start (same_set (events_at v at)) c)

      from : {f : Event} → RestsOn v.start (events st) x.event f → (y : Stander) → IsIn y v.events → y.event ≡ f
          → bench.RestsOn v x.id.line y
      from itself y j e = bench.itself (ap (λ (z : Stander). z.id.line) (same_stander v.events y x ok.set.own_lines j i (inr e)))
      from (through {f = f} {c = c} k r h) y j e =
          let m = map_cases (λ (z : Stander). z.event) v.events (alike-in (alike_back (events_at v at)) k) in
          let cause = cause_included v.start (same_set (alike_back (events_at v at))) h in
          bench.through m.1 (from r m.0 m.1 m.2) (subst (λ d. IsCause v.start (standing (set_of v)) y.event d) (sym m.2) (subst (λ d. IsCause v.start (standing (set_of v)) d c) (sym e) cause))
