use Rattle.std.proofs.Common.{◌≡◌, List, ◌∷◌, ◌<◌, length, Some, arith, sym, subst, ◌∙◌}
use Rattle.std.specs.Prelude.{slice_get}
use Rattle.ic_name.specs.Events.{pair}
use Rattle.ic_name.specs.declared.ids.EventId.{EventId}
use Rattle.ic_path.specs.Orders.{IsIn, Alike}
use Rattle.ic_roster.specs.Rosters.{Stander}
use Rattle.ic_roster.proofs.Options.{at_none, at_some}
use Rattle.ic_set.specs.Changes.{TakesOut}
use Rattle.ic_set.specs.Removal.{IsFree, IsLeast}
use Rattle.ic_trace.specs.declared.past.deep.DeepEvent.{DeepEvent}
use Rattle.ic_trace.proofs.Flags.{line_inside, one_less_taken}
use Rattle.ic_trace.proofs.SeenSoFar.{found_left}
use Rattle.ic_trace.proofs.UndonePasts.{keeps_fewer, undoes_deep, undoes_none, undoes_rested, undoes_held, keeps_left, undoes_left}
use Rattle.ic_trace.proofs.past.Past.undo.Goals.{then-rest_on-via-then-rest_on, then-rest_on-via-else-rest_on+then-is_some}
use Rattle.ic_trace.proofs.past.Past.undo.Goals as goal

pub invariant_of-self : goal.invariant_of-self
invariant_of-self c =
    let ds = c.self.inside.deep.items in
    let d = c.in-Some.ensures.found in
    let at = subst (λ (xs : List DeepEvent). slice_get xs c.in-Some.place ≡ Some d.0) c.deref.ensures.value d.1 in
    let left : Alike ds (d.0 ∷ c.swap_remove.new.self.items) =
    subst (λ (xs : List DeepEvent). Alike ds (d.0 ∷ xs)) (sym c.swap_remove.ensures.items) (found_left ds c.in-Some.place d.0 c.swap_remove.result at) in
    (keeps_fewer c.self.inside.set.set c.lawful.ensures.set ds c.self.invariant.0 d.0 c.swap_remove.new.self.items left, c.self.invariant.1)

pub returns-in-Some : goal.returns-in-Some
returns-in-Some c =
    let ds = c.self.inside.deep.items in
    let d = c.in-Some.ensures.found in
    let at = subst (λ (xs : List DeepEvent). slice_get xs c.in-Some.place ≡ Some d.0) c.deref.ensures.value d.1 in
    let left : Alike ds (d.0 ∷ c.swap_remove.new.self.items) =
    subst (λ (xs : List DeepEvent). Alike ds (d.0 ∷ xs)) (sym c.swap_remove.ensures.items) (found_left ds c.in-Some.place d.0 c.swap_remove.result at) in
    let named : pair d.0.event ≡ c.args.event.now = d.2 ∙ (λ i. record { lead = c.lead.ensures i; other = c.other.ensures i }) in
    rw (← c.self.view_is) (undoes_deep c.self.inside.set.set c.lawful.ensures.set ds c.self.invariant.0 d.0 c.swap_remove.new.self.items left c.args.event.now named)

pub returns-in_default-find_event : goal.returns-in_default-find_event
returns-in_default-find_event c =
    let ds = c.self.inside.deep.items in
    let new : (d : DeepEvent) → IsIn d ds → pair d.event ≡ c.args.event.now → ⊥ =
    λ d i q. c.in_default.ensures.absent d (rw c.deref.ensures.value i) (q ∙ (λ j. record { lead = sym c.lead.ensures j; other = sym c.other.ensures j })) in
    let none : (x : Stander) → IsIn x c.self.inside.set.set.events → pair x.event ≡ c.args.event.now → ⊥ = λ x i. c.in_default-find_event.ensures.absent x (rw c.roster.ensures.events i) in
    rw (← c.self.view_is) (undoes_none c.self.inside.set.set c.lawful.ensures.set ds c.self.invariant.0 c.args.event.now new none)

pub returns-then-rest_on : goal.returns-then-rest_on
returns-then-rest_on c =
    let ds = c.self.inside.deep.items in
    let new : (d : DeepEvent) → IsIn d ds → pair d.event ≡ c.args.event.now → ⊥ =
    λ d i q. c.in_default.ensures.absent d (rw c.deref.ensures.value i) (q ∙ (λ j. record { lead = sym c.lead.ensures j; other = sym c.other.ensures j })) in
    let x = c.in-Some-find_event.ensures.found in
    let there = subst (λ (xs : List Stander). IsIn x.0 xs) c.roster.ensures.events x.1 in
    rw (← c.self.view_is) (elim c.then-rest_on.branch [
      | then-rest_on-via-then-rest_on w ↦ (
          let d = c.rest_on.ensures.0 w.if-rest_on.true in
          undoes_rested c.self.inside.set.set c.lawful.ensures.set ds c.self.invariant.0 c.args.event.now new x.0 there x.3 d.0
          (subst (λ (xs : List DeepEvent). IsIn d.0 xs) c.deref-2.ensures.value d.1) (subst (λ e. IsIn e d.0.causes.items) (sym x.2) d.2))
      | then-rest_on-via-else-rest_on+then-is_some w ↦ (
          let l = at_some w.least_dependent.result (sym w.is_some.ensures ∙ w.if-is_some.true) w.least_dependent.ensures.found in
          undoes_held c.self.inside.set.set c.lawful.ensures.set ds c.self.invariant.0 c.args.event.now new x.0 there x.3 l.0
          (subst (λ e. IsLeast c.self.inside.set.set e l.0) (sym x.2) l.1))
    ])

pub take_out-requires-clause-free : goal.take_out-requires-clause-free
take_out-requires-clause-free c = at_none c.least_dependent.result (sym c.is_some.ensures ∙ c.if-is_some.false) c.least_dependent.ensures.absent

pub index_mut-requires : goal.index_mut-requires
index_mut-requires c =
    let x = c.in-Some-find_event.ensures.found in
    let there = subst (λ (xs : List Stander). IsIn x.0 xs) c.roster.ensures.events x.1 in
    let room = subst (λ (d : EventId). d.line < length c.self.inside.taken.items) x.2 (line_inside c.self.inside.set.set.events c.self.inside.taken.items c.self.invariant.1 x.0 there) in
    let long = c.self.inside.taken.ok in
    omega (arith, room, long)

pub invariant_of-self-2 : goal.invariant_of-self-2
invariant_of-self-2 c =
    let ds = c.self.inside.deep.items in
    let new : (d : DeepEvent) → IsIn d ds → pair d.event ≡ c.args.event.now → ⊥ =
    λ d i q. c.in_default.ensures.absent d (rw c.deref.ensures.value i) (q ∙ (λ j. record { lead = sym c.lead.ensures j; other = sym c.other.ensures j })) in
    let x = c.in-Some-find_event.ensures.found in
    let there = subst (λ (xs : List Stander). IsIn x.0 xs) c.roster.ensures.events x.1 in
    let free = at_none c.least_dependent.result (sym c.is_some.ensures ∙ c.if-is_some.false) c.least_dependent.ensures.absent in
    let rests : ((d : DeepEvent) × IsIn d ds × IsIn x.0.id d.causes.items) → ⊥ = λ w. (
    let t = c.rest_on.ensures.1 (w.0, rw c.deref-2.ensures.value w.1, subst (λ e. IsIn e w.0.causes.items) x.2 w.2) in
    let f = c.if-rest_on.false in
    cc) in (
      keeps_left c.self.inside.set.set c.lawful.ensures.set ds c.self.invariant.0 c.args.event.now new x.0 there x.3 c.take_out.new.self.set
          (subst (λ e. TakesOut c.self.inside.set.set e c.take_out.new.self.set) (sym x.2) c.take_out.ensures.out) (subst (IsFree c.self.inside.set.set) (sym x.2) free) rests,
      one_less_taken c.self.inside.set.set c.take_out.new.self.set c.in-Some-find_event.id c.take_out.ensures.out c.lawful.ensures.set.own_lines c.self.inside.taken.items c.self.invariant.1,
    )

pub returns : goal.returns
returns c =
    let ds = c.self.inside.deep.items in
    let new : (d : DeepEvent) → IsIn d ds → pair d.event ≡ c.args.event.now → ⊥ =
    λ d i q. c.in_default.ensures.absent d (rw c.deref.ensures.value i) (q ∙ (λ j. record { lead = sym c.lead.ensures j; other = sym c.other.ensures j })) in
    let x = c.in-Some-find_event.ensures.found in
    let there = subst (λ (xs : List Stander). IsIn x.0 xs) c.roster.ensures.events x.1 in
    let free = at_none c.least_dependent.result (sym c.is_some.ensures ∙ c.if-is_some.false) c.least_dependent.ensures.absent in
    let rests : ((d : DeepEvent) × IsIn d ds × IsIn x.0.id d.causes.items) → ⊥ = λ w. (
    let t = c.rest_on.ensures.1 (w.0, rw c.deref-2.ensures.value w.1, subst (λ e. IsIn e w.0.causes.items) x.2 w.2) in
    let f = c.if-rest_on.false in
    cc) in
    rw (← c.self.view_is) (undoes_left c.self.inside.set.set c.lawful.ensures.set ds c.self.invariant.0 c.args.event.now new x.0 there x.3 c.take_out.new.self.set
    (subst (λ e. TakesOut c.self.inside.set.set e c.take_out.new.self.set) (sym x.2) c.take_out.ensures.out) (subst (IsFree c.self.inside.set.set) (sym x.2) free) rests)
