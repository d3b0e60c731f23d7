use Rattle.std.proofs.Common.{◌≡◌, List, get_or, refl, sym, ap, subst, ◌∙◌}
use Rattle.std.proofs.lemmas.List.{take_all}
use Rattle.std.proofs.lemmas.Option.{slice_get-get_or}
use Rattle.ic_name.specs.Events.{Pair, pair}
use Rattle.ic_path.specs.Orders.{IsIn}
use Rattle.ic_trace.specs.declared.past.deep.DeepEvent.{DeepEvent}
use Rattle.ic_trace.proofs.past.deep.place_of.Goals.{else-is-via-then-is+else-is-2, else-is-via-else-is}
use Rattle.ic_trace.proofs.past.deep.place_of.Goals as goal
use Rattle.ic_path.proofs.ListPlaces.{none_more}

pub returns-then-is-2-clause-found : goal.returns-then-is-2-clause-found
returns-then-is-2-clause-found c =
    let lead = sym c.lead.ensures ∙ c.is.ensures.0 c.if-is.true in
    let other = sym c.other.ensures ∙ c.is-then-is.ensures.0 c.if-is-2.true in
    (get_or c.args.deep.now c.loop-place.place c.index-deep-place.result, slice_get-get_or c.args.deep.now c.loop-place.place c.index-deep-place.result c.loop-place-test.true, λ i. record { lead = lead i; other = other i })

pub loop-place-preserved : goal.loop-place-preserved
loop-place-preserved c =
    let p : Pair = record { lead = c.args.lead.now; other = c.args.other.now } in
    none_more (λ (d : DeepEvent). pair d.event ≡ p) c.args.deep.now c.loop-place.place
    (get_or c.args.deep.now c.loop-place.place c.index-deep-place.result) c.index-deep-place.result c.loop-place-test.true refl c.loop-place.invariant
    (λ e. elim c.else-is.branch [
      | else-is-via-then-is+else-is-2 w ↦ (let t = w.is-then-is.ensures.1 (w.other.ensures ∙ ap (λ (q : Pair). q.other) e) in let f = w.if-is-2.false in absurd cc)
      | else-is-via-else-is w ↦ (let t = c.is.ensures.1 (c.lead.ensures ∙ ap (λ (q : Pair). q.lead) e) in let f = w.if-is.false in absurd cc)
    ])

pub returns-clause-absent : goal.returns-clause-absent
returns-clause-absent c =
    let whole = take_all c.loop-place.place c.args.deep.now c.loop-place-test.false in
    λ d i. c.loop-place.invariant d (subst (λ (ds : List DeepEvent). IsIn d ds) (sym whole) i)
