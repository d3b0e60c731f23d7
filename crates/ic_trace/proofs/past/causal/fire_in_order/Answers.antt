use Rattle.std.proofs.Common.{List, [], refl, arith, subst}
use Rattle.std.proofs.lemmas.List.{take_all}
use Rattle.ic_name.specs.Events.{Event}
use Rattle.ic_path.specs.Orders.{none}
use Rattle.ic_path.proofs.Alikes.{alike-length}
use Rattle.ic_theory.specs.Firings.{IsFired, nothing, then_fired}
use Rattle.ic_trace.proofs.ListedFirings.{few_fired, fires_more, fires_not, fired_causal}
use Rattle.ic_trace.proofs.past.causal.fire_in_order.Goals as goal

pub loop-event-init : goal.loop-event-init
loop-event-init c = record {
  fired = nothing;
  start = refl;
  standing = rw c.requires.nothing none;
}

pub fire-requires : goal.fire-requires
fire-requires c =
    let fired = few_fired c.args.events.now c.loop-event.event-index c.loop-event-test.true in
    let same = alike-length c.loop-event.invariant.standing in
    let below = c.loop-event-test.true in
    let few = c.requires.few in
    omega (arith, fired, same, below, few)

pub returns-then-not-branch : goal.returns-then-not-branch
returns-then-not-branch c =
    let so_far = c.loop-event.invariant in (
      λ t. absurd cc,
      λ order. absurd (fires_not _ c.lawful.ensures.proper c.args.events.now c.loop-event.event-index c.event-item.result _ c.loop-event-test.true c.event-item.is
          so_far.start so_far.standing c.in_ok-fire.field-0 c.if-not-branch.true c.in_ok-fire.ensures.fired order),
    )

pub loop-event-preserved : goal.loop-event-preserved
loop-event-preserved c =
    let so_far = c.loop-event.invariant in
    let next = fires_more c.args.events.now c.loop-event.event-index c.event-item.result _ c.loop-event-test.true c.event-item.is
    so_far.start so_far.fired so_far.standing c.in_ok-fire.field-0 c.if-not-branch.false c.in_ok-fire.ensures.fired in
    record { fired = next.0; start = next.1; standing = next.2 }

pub returns : goal.returns
returns c =
    let whole = take_all c.loop-event.event-index c.args.events.now c.loop-event-test.false in (
      λ t. fired_causal c.args.past.now.start c.lawful.ensures.proper c.args.events.now
          (subst (λ (es : List Event). IsFired c.args.past.now.start (then_fired [] es)) whole c.loop-event.invariant.fired),
      λ order. refl,
    )
