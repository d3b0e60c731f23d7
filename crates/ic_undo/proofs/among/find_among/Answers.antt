use Rattle.std.proofs.Common.{◌≡◌, ◌+◌, [], ◌∷◌, ◌++◌, Option, Some, None, IfSome, get_or, take, not, refl, subst, ap, ◌∙◌}
use Rattle.std.specs.Prelude.{IfNone}
use Rattle.std.proofs.lemmas.List.{map-append, take_more}
use Rattle.ic_name.specs.declared.ids.EventId.{EventId}
use Rattle.ic_names.specs.Tables.{name_at}
use Rattle.ic_names.specs.declared.table.NameId.{NameId}
use Rattle.ic_path.specs.Orders.{IsIn}
use Rattle.ic_roster.specs.Rosters.{Stander}
use Rattle.ic_roster.proofs.Options.{at_none, at_some}
use Rattle.ic_undo.specs.Among.{names_at}
use Rattle.ic_undo.specs.GoingBack.{IsOutside}
use Rattle.ic_undo.proofs.LedPlaces.{in_at}
use Rattle.ic_undo.proofs.MarkedEvents.{over_start}
use Rattle.ic_undo.proofs.MissingOrders.{missing_none, missing_same, missing_stands, missing_more}
use Rattle.ic_undo.proofs.OutsideOrders.{outside_none, outside_same, outside_led, outside_more}
use Rattle.ic_undo.proofs.among.find_among.Goals as goal
use Rattle.ic_undo.proofs.among.find_among.Goals.{in-Some+then-is_none+in_ok-push-in-Some, in-Some+else-is_none, in-None+in-Some-standing+in_ok-push-in-None, in-None+in_default}

-- what holds where there is nothing, where nothing is found
none_found : {X P : Type 0} (o : Option X) → ((x : X) → o ≡ Some x → ⊥) → IfNone o P → P
none_found None not h = h
none_found (Some x) not h = absurd (not x refl)

pub loop-lead-init : goal.loop-lead-init
loop-lead-init g c =
    let v = c.args.bench.now in
    let m = c.args.mark.now in
    rw (c.in_ok-outside.ensures.items, c.in_ok-missing.ensures.items) (record { outside = outside_none v c.lawful.ensures.set m; missing = missing_none v c.lawful.ensures.set m (over_start v m c.requires.start c.lawful-2.ensures) })

pub loop-lead-preserved : goal.loop-lead-preserved
loop-lead-preserved g c =
    let v = c.args.bench.now in
    let m = c.args.mark.now in
    let set = c.lawful.ensures.set in
    let over = over_start v m c.requires.start c.lawful-2.ensures in
    let firsts = take c.loop-lead.lead-index c.args.leads.now in
    let ns = names_at v.names firsts in
    let lead : NameId = get_or c.args.leads.now c.loop-lead.lead-index (record { place = 0 }) in
    let n = name_at v.names lead.place in
    let standing = c.event_led_at-standing.result in
    let stands = c.event_led_at-standing.ensures in
    let ids = c.loop-lead.outside.items in
    let places = c.loop-lead.missing.items in
    let found = c.loop-lead.invariant in
    let more : names_at v.names (take (c.loop-lead.lead-index + 1) c.args.leads.now) ≡ ns ++ n ∷ [] =
    ap (names_at v.names) (take_more c.args.leads.now c.loop-lead.lead-index (record { place = 0 }) c.loop-lead-test.true) ∙ map-append (λ (a : NameId). name_at v.names a.place) firsts (lead ∷ []) in
    rw more (elim c.match-branch-4.branch [
      | in-Some+then-is_none+in_ok-push-in-Some w ↦
          let e = rw (w.in-Some.is, c.known_names.ensures) at c.in_ok-place.ensures.found in
          let absent = at_none standing (w.is_none.ensures ∙ ap not w.if-is_none.true) stands.absent in
          rw (w.outside-is, w.missing-is, w.in_ok-push-in-Some.ensures.items) (record {
            outside = outside_same v set m ns n ids (λ x i out q. absent x i q) found.outside;
            missing = missing_more v set m over ns n places w.in-Some.place e.0 e.1 e.2 absent found.missing;
          })
      | in-Some+else-is_none w ↦
          let e = rw (w.in-Some.is, c.known_names.ensures) at c.in_ok-place.ensures.found in
          let inside = in_at m.events w.in-Some.place e.0 e.1 in
          let x = (at_some standing (w.is_none.ensures ∙ ap not w.if-is_none.false) stands.found).1 in
          rw (w.outside-is, w.missing-is) (record {
            outside = outside_led v set m over ns n ids e.0 inside e.2 found.outside;
            missing = missing_stands v set m over ns n places e.0 x.0 inside e.2 x.1 x.3 found.missing;
          })
      | in-None+in-Some-standing+in_ok-push-in-None w ↦
          let id = w.in-Some-standing.id in
          let x : (x : Stander) × IsIn x v.events × (x.id ≡ id) × (x.event.lead ≡ n) = subst (λ (o : Option EventId). IfSome o (λ d. (x : Stander) × IsIn x v.events × (x.id ≡ d) × (x.event.lead ≡ n))) w.in-Some-standing.is stands.found in
          let out : IsOutside m x.0 = (λ j. (rw (w.in-None.is, c.known_names.ensures) at c.in_ok-place.ensures.absent) x.0.event j x.3) in
          rw (w.outside-is, w.missing-is, w.in_ok-push-in-None.ensures.items) (record {
            outside = outside_more v set m ns n ids id x.0 x.1 out x.2 x.3 found.outside;
            missing = missing_same v set m over ns n places (λ e i q. (rw (w.in-None.is, c.known_names.ensures) at c.in_ok-place.ensures.absent) e i.0 q) found.missing;
          })
      | in-None+in_default w ↦
          let absent = none_found standing w.in_default.not-Some stands.absent in
          rw (w.outside-is, w.missing-is) (record {
            outside = outside_same v set m ns n ids (λ x i out q. absent x i q) found.outside;
            missing = missing_same v set m over ns n places (λ e i q. (rw (w.in-None.is, c.known_names.ensures) at c.in_ok-place.ensures.absent) e i.0 q) found.missing;
          })
    ])
