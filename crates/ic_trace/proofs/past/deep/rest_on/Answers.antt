use Rattle.std.proofs.Common.{◌≡◌, List, refl, sym, subst, ◌∙◌}
use Rattle.std.specs.List.{list_any}
use Rattle.std.proofs.lemmas.List.{take_all}
use Rattle.ic_name.specs.Spots.{same_event}
use Rattle.ic_name.specs.declared.ids.EventId.{EventId}
use Rattle.ic_path.specs.Orders.{IsIn}
use Rattle.ic_path.proofs.ListTests.{any-picked, any_in}
use Rattle.ic_trace.specs.declared.past.deep.DeepEvent.{DeepEvent}
use Rattle.ic_trace.proofs.past.deep.rest_on.Goals as goal
use Rattle.ic_name.proofs.SameFacts.{same_event_true, same_event_self}
use Rattle.ic_path.proofs.ListPlaces.{item_in, none_more}

pub returns-then-contains : goal.returns-then-contains
returns-then-contains c =
    let there = item_in c.args.deep.now c.loop-standing.standing-index c.standing-item.result _ c.loop-standing-test.true c.standing-item.is in
    let any : c.contains.result ≡ list_any (λ (y : EventId). same_event y c.args.cause) c.standing-item.result.causes.items = rw c.deref.ensures.value at c.contains.ensures.value in
    let is : IsIn c.args.cause c.standing-item.result.causes.items = any_in (λ (y : EventId). same_event y c.args.cause) c.args.cause c.standing-item.result.causes.items (λ y e. sym (same_event_true y c.args.cause e)) (sym any ∙ c.if-contains.true) in
    (λ t. (c.standing-item.result, there, is), λ w. refl)

pub loop-standing-preserved : goal.loop-standing-preserved
loop-standing-preserved c =
    let any : c.contains.result ≡ list_any (λ (y : EventId). same_event y c.args.cause) c.standing-item.result.causes.items = rw c.deref.ensures.value at c.contains.ensures.value in
    none_more (λ (d : DeepEvent). IsIn c.args.cause d.causes.items) c.args.deep.now c.loop-standing.standing-index c.standing-item.result _ c.loop-standing-test.true c.standing-item.is
    c.loop-standing.invariant
    (λ i. (let t = any-picked (λ (y : EventId). same_event y c.args.cause) i.1 (same_event_self c.args.cause) in let f = c.if-contains.false in absurd cc))

pub returns : goal.returns
returns c =
    let whole = take_all c.loop-standing.standing-index c.args.deep.now c.loop-standing-test.false in
    (λ t. absurd cc, λ w. absurd (c.loop-standing.invariant w.0 (subst (λ (ds : List DeepEvent). IsIn w.0 ds) (sym whole) w.1) w.2))
