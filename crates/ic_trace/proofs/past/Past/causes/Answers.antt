use Rattle.std.proofs.Common.{◌≡◌, List, inl, inr, Some, sym, ap, subst, ◌∙◌}
use Rattle.std.specs.Prelude.{slice_get}
use Rattle.std.proofs.lemmas.Option.{get_or_from_slice_get}
use Rattle.ic_name.specs.Events.{pair}
use Rattle.ic_path.specs.Orders.{IsIn}
use Rattle.ic_roster.specs.Rosters.{Stander}
use Rattle.ic_path.proofs.InLists.{in-map, map_cases}
use Rattle.ic_theory.proofs.Closed.{cause_stays}
use Rattle.ic_theory.proofs.Future.{pick_part}
use Rattle.ic_set.specs.Orders.{AreInOrder, IsCauseOf}
use Rattle.ic_set.specs.Views.{standing}
use Rattle.ic_trace.specs.DeepEvents.{deep_events}
use Rattle.ic_trace.specs.declared.past.deep.DeepEvent.{DeepEvent}
use Rattle.ic_trace.proofs.FiredPasts.{deep_is_active}
use Rattle.ic_trace.proofs.NamedCauses.{causes_in_order, causes_named}
use Rattle.ic_trace.proofs.UndonePasts.{whole, beside, inside}
use Rattle.ic_trace.proofs.WithoutDeep.{cause_shallow}
use Rattle.ic_trace.proofs.past.Past.causes.Goals as goal
use Rattle.ic_path.proofs.ListPlaces.{found_in}

pub returns-in-Some : goal.returns-in-Some
returns-in-Some c =
    let v = c.self.inside.set.set in
    let ds = c.self.inside.deep.items in
    let set = c.lawful.ensures.set in
    let k = c.self.invariant.0 in
    let d = c.in-Some.ensures.found in
    let there = subst (λ (xs : List DeepEvent). IsIn d.0 xs) c.deref.ensures.value (found_in c.deref.result.now c.in-Some.place d.0 d.1) in
    let named : pair d.0.event ≡ c.args.event.now = d.2 ∙ (λ i. record { lead = c.lead.ensures i; other = c.other.ensures i }) in
    let xs = c.in_ok-names.ensures in
    let at = subst (λ (ys : List DeepEvent). slice_get ys c.in-Some.place ≡ Some d.0) c.deref.ensures.value d.1 in
    let its = ap (λ (y : DeepEvent). y.causes.items) (c.index.ensures ∙ get_or_from_slice_get ds c.in-Some.place d.0 c.index.result.now at) in
    rw (← c.self.view_is)
    (causes_named v set ds d.0.event (beside v set ds k d.0 there) c.args.event.now named
    (λ e q. cause_shallow v.start set.proper k.sound.apart (whole v set ds k) (deep_is_active v set ds k d.0 there) q)
    d.0.causes.items (k.causes d.0 there) k xs.0 (λ x i. subst (λ (ss : List Stander). IsIn x ss) c.roster.ensures.events (xs.1 x i)) (xs.2 ∙ c.deref-in-Some.ensures.value ∙ its) c.in_ok-names.names.items xs.3)

pub returns-in_default-find_event : goal.returns-in_default-find_event
returns-in_default-find_event c =
    let v = c.self.inside.set.set in
    let ds = c.self.inside.deep.items in
    rw (← c.self.view_is) (λ e i q. elim (pick_part (deep_events ds) (standing v) i.1) [
      | inl j ↦ (
          let d = map_cases (λ (y : DeepEvent). y.event) ds j in
          c.in_default.ensures.absent d.0 (rw c.deref.ensures.value d.1) (ap pair d.2 ∙ q ∙ (λ k. record { lead = sym c.lead.ensures k; other = sym c.other.ensures k })))
      | inr j ↦ (
          let x = map_cases (λ (y : Stander). y.event) v.events j in
          c.in_default-find_event.ensures.absent x.0 (rw c.roster-2.ensures.events x.1) (ap pair x.2 ∙ q))
    ])

pub returns : goal.returns
returns c =
    let v = c.self.inside.set.set in
    let ds = c.self.inside.deep.items in
    let set = c.lawful.ensures.set in
    let k = c.self.invariant.0 in
    let x = c.in-Some-find_event.ensures.found in
    let there = subst (λ (ss : List Stander). IsIn x.0 ss) c.roster-2.ensures.events x.1 in
    let ids = c.in_ok-causes.causes.items in
    let are = causes_in_order v set x.0 there ids (subst (λ d. AreInOrder v (IsCauseOf v d) ids) (sym x.2) c.in_ok-causes.ensures) in
    let xs = c.in_ok-names-2.ensures in
    rw (← c.self.view_is)
    (causes_named v set ds x.0.event (inside v set ds k x.0 there) c.args.event.now x.3
    (λ e q. cause_stays v.start set.proper k.sound.apart (whole v set ds k) set.sound (in-map (λ (y : Stander). y.event) there) q)
    ids are k xs.0 (λ y i. subst (λ (ss : List Stander). IsIn y ss) c.roster-3.ensures.events (xs.1 y i)) (xs.2 ∙ c.deref-2.ensures.value) c.in_ok-names-2.names.items xs.3)

pub names_of-requires : goal.names_of-requires
names_of-requires c =
    let ds = c.self.inside.deep.items in
    let k = c.self.invariant.0 in
    let d = c.in-Some.ensures.found in
    let there = subst (λ (xs : List DeepEvent). IsIn d.0 xs) c.deref.ensures.value (found_in c.deref.result.now c.in-Some.place d.0 d.1) in
    let at = subst (λ (ys : List DeepEvent). slice_get ys c.in-Some.place ≡ Some d.0) c.deref.ensures.value d.1 in
    let its = ap (λ (y : DeepEvent). y.causes.items) (c.index.ensures ∙ get_or_from_slice_get ds c.in-Some.place d.0 c.index.result.now at) in
    λ e i. (
    let y = (k.causes d.0 there).only e (subst (λ xs. IsIn e xs) (c.deref-in-Some.ensures.value ∙ its) i) in
    (y.0, subst (λ (ss : List Stander). IsIn y.0 ss) (sym c.roster.ensures.events) y.1, y.2))

pub names_of-requires-2 : goal.names_of-requires-2
names_of-requires-2 c = λ e i. (
    let y = map_cases (λ (z : Stander). z.id) c.in_ok-causes.ensures.order (subst (λ xs. IsIn e xs) (c.deref-2.ensures.value ∙ sym c.in_ok-causes.ensures.named) i) in
    (y.0, subst (λ (ss : List Stander). IsIn y.0 ss) (sym c.roster-3.ensures.events) (c.in_ok-causes.ensures.each.only y.0 y.1).0, y.2))
