use Rattle.std.proofs.Common.{List, take, inl, inr, refl, sym, ap, ◌∙◌}
use Rattle.ic_theory.specs.Sets.{consumed_times}
use Rattle.ic_trace.specs.DeepEvents.{deep_events}
use Rattle.ic_trace.specs.declared.past.deep.DeepEvent.{DeepEvent}
use Rattle.ic_trace.proofs.SeenSoFar.{consumes, unconsumed_more}
use Rattle.ic_trace.proofs.past.deep.consume.Goals.{then-is-via-then-is, then-is-via-else-is+then-is-2}
use Rattle.ic_trace.proofs.past.deep.consume.Goals as goal
use Rattle.ic_path.proofs.ListPlaces.{item_in, seen_more}

pub returns-then-is : goal.returns-then-is
returns-then-is c =
    let there = item_in c.args.deep.now c.loop-standing.standing-index c.standing-item.result _ c.loop-standing-test.true c.standing-item.is in (
      λ t. consumes c.args.deep.now c.standing-item.result c.args.name.now there (elim c.then-is.branch [
        | then-is-via-then-is w ↦ inl (sym c.lead.ensures ∙ c.is.ensures.0 w.if-is.true)
        | then-is-via-else-is+then-is-2 w ↦ inr (sym w.other.ensures ∙ w.is-else-is.ensures.0 w.if-is-2.true)
      ]),
      λ some. refl,
    )

pub loop-standing-preserved : goal.loop-standing-preserved
loop-standing-preserved c =
    let seen = seen_more c.args.deep.now c.loop-standing.standing-index c.standing-item.result _ c.loop-standing-test.true c.standing-item.is in
    ap (λ (ds : List DeepEvent). consumed_times c.args.name.now (deep_events ds)) seen
    ∙ unconsumed_more (take c.loop-standing.standing-index c.args.deep.now) c.standing-item.result c.args.name.now c.loop-standing.invariant
    (λ e. (let t = c.is.ensures.1 (c.lead.ensures ∙ e) in let f = c.if-is.false in absurd cc))
    (λ e. (let t = c.is-else-is.ensures.1 (c.other.ensures ∙ e) in let f = c.if-is-2.false in absurd cc))
