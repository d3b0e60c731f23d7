use Rattle.std.proofs.Common.{◌≡◌, ◌+◌, ◌<◌, ℕ, List, [], ◌∷◌, ◌++◌, Some, slice_get, take, length, true, inl, inr, sym, ap, subst, arith, ◌∙◌}
use Rattle.std.proofs.lemmas.List.{take_more, take_all}
use Rattle.std.proofs.lemmas.Option.{slice_get_within, get_or_from_slice_get}
use Rattle.ic_name.specs.Events.{Event}
use Rattle.ic_path.specs.Orders.{IsIn}
use Rattle.ic_path.proofs.Picks.{none_in}
use Rattle.ic_set.specs.Views.{standing}
use Rattle.ic_journal.specs.Views.{set_of}
use Rattle.ic_undo.specs.GoingBack.{AreMissing, events_at}
use Rattle.ic_undo.proofs.ChosenLists.{Chosen, nothing, chosen_more, chosen_same}
use Rattle.ic_undo.proofs.LedPlaces.{in_at}
use Rattle.ic_undo.proofs.MarkedEvents.{over_start, stands_led, led_stands, missing_chosen}
use Rattle.ic_undo.proofs.PlacedMarks.{more_at}
use Rattle.ic_undo.proofs.Places.{parts}
use Rattle.ic_undo.proofs.missing.missing_events.Goals as goal

-- the first events with the next one
first_more : (es : List Event) (p : ℕ) (e : Event) → slice_get es p ≡ Some e → take (p + 1) es ≡ take p es ++ e ∷ []
first_more es p e at = take_more es p e (slice_get_within es p e at) ∙ ap (λ x. take p es ++ x ∷ []) (get_or_from_slice_get es p e e at)

pub loop-place-init : goal.loop-place-init
loop-place-init g c = rw c.new-missing.ensures.items (record { within = λ p i. absurd (none_in i); chosen = nothing })

pub loop-place-preserved-then-stands : goal.loop-place-preserved-then-stands
loop-place-preserved-then-stands g c =
    let v = c.args.bench.now in
    let es = c.args.mark.now.events in
    let e = c.in_ok-event.event in
    let at = c.in_ok-event.ensures in
    let there : IsIn e (standing (set_of v)) = stands_led v c.lawful.ensures.set es (over_start v c.args.mark.now c.requires c.lawful-2.ensures) e (in_at es c.loop-place.place e at) (c.stands.ensures.0 c.if-stands.true) in
    record { within = c.loop-place.invariant.within; chosen = rw (first_more es c.loop-place.place e at) (chosen_same e (λ n. n there) c.loop-place.invariant.chosen) }

pub loop-place-preserved : goal.loop-place-preserved
loop-place-preserved g c =
    let v = c.args.bench.now in
    let es = c.args.mark.now.events in
    let k = c.loop-place.place in
    let e = c.in_ok-event.event in
    let at = c.in_ok-event.ensures in
    let places = c.loop-place.missing.items in
    let absent : IsIn e (standing (set_of v)) → ⊥ =
    (λ i. let t : c.stands.result ≡ true = c.stands.ensures.1 (led_stands v c.lawful.ensures.set es (over_start v c.args.mark.now c.requires c.lawful-2.ensures) e i) in let f = c.if-stands.false in absurd cc) in
    rw c.in_ok-push.ensures.items (record {
      within = λ p i. elim (parts places i) [
        | inl j ↦ c.loop-place.invariant.within p j
        | inr r ↦ elim r [ inl q ↦ subst (λ (n : ℕ). n < length es) (sym q) (slice_get_within es k e at) | inr j ↦ absurd (none_in j) ]
      ];
      chosen = rw (first_more es k e at, more_at es places k e at) (chosen_more e absent c.loop-place.invariant.chosen);
    })

pub returns : goal.returns
returns g c =
    let v = c.args.bench.now in
    let es = c.args.mark.now.events in
    let past = c.loop-place-test.false in
    let count = c.event_count-place-end.ensures in
    let missing = events_at es c.loop-place.missing.items in
    let all = take_all c.loop-place.place es (omega (arith, past, count)) in
    let chosen = subst (λ fs. Chosen (λ f. IsIn f (standing (set_of v)) → ⊥) fs missing) all c.loop-place.invariant.chosen in
    record {
      within = c.loop-place.invariant.within;
      missing = subst (λ s. AreMissing v (record { start = s; events = es }) missing) (sym c.requires)
          (missing_chosen v c.lawful.ensures.set es (over_start v c.args.mark.now c.requires c.lawful-2.ensures) chosen);
    }
