use Rattle.std.proofs.Common.{◌≡◌, List, sym, subst, ◌∙◌}
use Rattle.ic_name.specs.Events.{pair}
use Rattle.ic_path.specs.Orders.{IsIn}
use Rattle.ic_roster.proofs.Options.{at_none, at_some}
use Rattle.ic_path.proofs.Errors.{at_error}
use Rattle.ic_trace.specs.declared.past.deep.DeepEvent.{DeepEvent}
use Rattle.ic_trace.specs.DeepEvents.{IsShallow}
use Rattle.ic_trace.specs.Pasts.{PastView, IsSamePast}
use Rattle.ic_theory.specs.Machine.{IsDeep}
use Rattle.ic_trace.proofs.FiredPasts.{one_event, same_past, same_set_past, keeps_same, not_active, not_again, keeps_more, fires_more, keeps_beside, fires_beside, past_of}
use Rattle.ic_trace.proofs.past.Past.fire.Goals as goal
use Rattle.ic_path.proofs.ListPlaces.{found_in}

pub returns-in_default-clause-fired : goal.returns-in_default-clause-fired
returns-in_default-clause-fired c =
    let short : IsShallow c.args.event.now = (rw c.lead.ensures at c.lawful.ensures.shallow, rw c.other.ensures at c.lawful-2.ensures.shallow) in
    rw (← c.self.view_is) (not_active c.self.inside.set.set c.lawful-3.ensures.set c.self.inside.deep.items c.self.invariant.0 c.args.event.now short c.in_default.ensures.absent, same_past _)

pub returns-then-is_some-clause-fired : goal.returns-then-is_some-clause-fired
returns-then-is_some-clause-fired c =
    let d = at_some c.place_of.result (sym c.is_some.ensures ∙ c.if-is_some.true) c.place_of.ensures.found in
    let there = subst (λ (ds : List DeepEvent). IsIn d.1.0 ds) c.deref.ensures.value (found_in c.deref.result.now d.0 d.1.0 d.1.1) in
    let named : pair d.1.0.event ≡ pair c.args.event.now = d.1.2 ∙ (λ i. record { lead = c.lead-2.ensures i; other = c.other-2.ensures i }) in
    rw (← c.self.view_is) (not_again c.self.inside.set.set c.lawful-3.ensures.set c.self.inside.deep.items c.self.invariant.0 c.args.event.now d.1.0 there named, same_past _)

pub invariant_of-self : goal.invariant_of-self
invariant_of-self c =
    let short : IsShallow c.args.event.now = (rw c.lead.ensures at c.lawful.ensures.shallow, rw c.other.ensures at c.lawful-2.ensures.shallow) in
    let absent = at_none c.place_of.result (sym c.is_some.ensures ∙ c.if-is_some.false) c.place_of.ensures.absent in
    let new : (d : DeepEvent) → IsIn d c.self.inside.deep.items → pair d.event ≡ pair c.args.event.now → ⊥ =
    λ d i q. absent d (rw c.deref.ensures.value i) (q ∙ (λ j. record { lead = sym c.lead-2.ensures j; other = sym c.other-2.ensures j })) in
    let w = c.in_ok-fire_beside.ensures.kept in (
      keeps_beside c.self.inside.set.set c.lawful-3.ensures.set c.self.inside.deep.items c.self.invariant.0 c.args.event.now short c.in-Some.ensures.found.active new
          (c.is_deep.ensures.0 c.if-is_deep.true) w.0 w.1 w.2 c.fire_beside.new.deep.items w.3,
      c.self.invariant.1,
    )

pub returns-in_ok-fire_beside-clause-fired : goal.returns-in_ok-fire_beside-clause-fired
returns-in_ok-fire_beside-clause-fired c =
    let short : IsShallow c.args.event.now = (rw c.lead.ensures at c.lawful.ensures.shallow, rw c.other.ensures at c.lawful-2.ensures.shallow) in
    let absent = at_none c.place_of.result (sym c.is_some.ensures ∙ c.if-is_some.false) c.place_of.ensures.absent in
    let new : (d : DeepEvent) → IsIn d c.self.inside.deep.items → pair d.event ≡ pair c.args.event.now → ⊥ =
    λ d i q. absent d (rw c.deref.ensures.value i) (q ∙ (λ j. record { lead = sym c.lead-2.ensures j; other = sym c.other-2.ensures j })) in
    let w = c.in_ok-fire_beside.ensures.kept in
    rw (← c.self.view_is) (fires_beside c.self.inside.set.set c.lawful-3.ensures.set c.self.inside.deep.items c.self.invariant.0 c.args.event.now short c.in-Some.ensures.found.active new
    (c.is_deep.ensures.0 c.if-is_deep.true) w.0 w.1 w.2 c.fire_beside.new.deep.items w.3)

pub returns-in_err-fire_beside-clause-unchanged : goal.returns-in_err-fire_beside-clause-unchanged
returns-in_err-fire_beside-clause-unchanged c =
    at_error _ (subst (λ (p : PastView). IsSamePast p (past_of c.self.inside.set.set c.fire_beside.new.deep.items)) c.self.view_is
    (subst (λ (ds : List DeepEvent). IsSamePast (past_of c.self.inside.set.set c.self.inside.deep.items) (past_of c.self.inside.set.set ds)) (sym c.in_err-fire_beside.ensures.unchanged)
    (same_past (past_of c.self.inside.set.set c.self.inside.deep.items))))

pub invariant_of-self-in-Continue-branch-2 : goal.invariant_of-self-in-Continue-branch-2
invariant_of-self-in-Continue-branch-2 c =
    let short : IsShallow c.args.event.now = (rw c.lead.ensures at c.lawful.ensures.shallow, rw c.other.ensures at c.lawful-2.ensures.shallow) in
    let absent = at_none c.place_of.result (sym c.is_some.ensures ∙ c.if-is_some.false) c.place_of.ensures.absent in
    let new : (d : DeepEvent) → IsIn d c.self.inside.deep.items → pair d.event ≡ pair c.args.event.now → ⊥ =
    λ d i q. absent d (rw c.deref.ensures.value i) (q ∙ (λ j. record { lead = sym c.lead-2.ensures j; other = sym c.other-2.ensures j })) in
    let w = c.in_ok-fire_in_set.ensures.admitted c.args.event.now c.in-Some.ensures.found in
    (keeps_more c.self.inside.set.set c.lawful-3.ensures.set c.self.inside.deep.items c.self.invariant.0 c.args.event.now short c.in-Some.ensures.found.active new c.fire_in_set.new.set.set w.0 w.1 w.2, c.fire_in_set.ensures.taken)

pub returns-in_ok-fire_in_set-clause-fired : goal.returns-in_ok-fire_in_set-clause-fired
returns-in_ok-fire_in_set-clause-fired c =
    let short : IsShallow c.args.event.now = (rw c.lead.ensures at c.lawful.ensures.shallow, rw c.other.ensures at c.lawful-2.ensures.shallow) in
    let absent = at_none c.place_of.result (sym c.is_some.ensures ∙ c.if-is_some.false) c.place_of.ensures.absent in
    let new : (d : DeepEvent) → IsIn d c.self.inside.deep.items → pair d.event ≡ pair c.args.event.now → ⊥ =
    λ d i q. absent d (rw c.deref.ensures.value i) (q ∙ (λ j. record { lead = sym c.lead-2.ensures j; other = sym c.other-2.ensures j })) in
    let w = c.in_ok-fire_in_set.ensures.admitted c.args.event.now c.in-Some.ensures.found in
    rw (← c.self.view_is) (fires_more c.self.inside.set.set c.lawful-3.ensures.set c.self.inside.deep.items c.self.invariant.0 c.args.event.now short c.in-Some.ensures.found.active new c.fire_in_set.new.set.set w.0 w.1 w.2)

pub invariant_of-self-in_err-fire_in_set : goal.invariant_of-self-in_err-fire_in_set
invariant_of-self-in_err-fire_in_set c = (keeps_same c.self.inside.set.set c.fire_in_set.new.set.set c.self.inside.deep.items c.in_err-fire_in_set.ensures.unchanged c.self.invariant.0, c.fire_in_set.ensures.taken)

pub returns-in_err-fire_in_set-clause-unchanged : goal.returns-in_err-fire_in_set-clause-unchanged
returns-in_err-fire_in_set-clause-unchanged c =
    at_error _ (subst (λ (p : PastView). IsSamePast p (past_of c.fire_in_set.new.set.set c.self.inside.deep.items)) c.self.view_is
    (same_set_past c.self.inside.set.set c.fire_in_set.new.set.set c.self.inside.deep.items c.in_err-fire_in_set.ensures.unchanged))

pub fire_in_set-requires-clause-shallow : goal.fire_in_set-requires-clause-shallow
fire_in_set-requires-clause-shallow c = λ e p deep. (
    let is : e ≡ c.args.event.now = one_event c.self.inside.set.set c.lawful-3.ensures.set c.in-Some.pair e c.args.event.now p c.in-Some.ensures.found in
    let tells = c.is_deep.ensures.1 (subst IsDeep is deep) in
    let isnt = c.if-is_deep.false in
    cc)
