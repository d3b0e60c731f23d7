use Rattle.std.proofs.Common.{sym, subst}
use Rattle.ic_name.specs.declared.ids.EventId.{EventId}
use Rattle.ic_set.specs.Orders.{AreInOrder, IsAny}
use Rattle.ic_journal.specs.Views.{set_of}
use Rattle.ic_undo.specs.GoingBack.{IsOutside}
use Rattle.ic_undo.proofs.ChosenOrders.{place, item_stands, chosen_none, chosen_next, left_next, all_chosen}
use Rattle.ic_undo.proofs.outside.outside_events.Goals as goal

-- an id that is never read
abbrev no_id : EventId
no_id = record { slot = 0; line = 0 }

pub loop-event-init : goal.loop-event-init
loop-event-init g c = λ h. rw c.new-ids.ensures.items (chosen_none (IsOutside c.args.mark.now))

pub is_in-requires-clause-stands : goal.is_in-requires-clause-stands
is_in-requires-clause-stands g c =
    let v = c.args.bench.now in
    let all = c.deref-event-items.result.now in
    let h = subst (λ es. AreInOrder (set_of v) IsAny es) (sym c.deref-event-items.ensures.value) c.in_ok-events.ensures in
    ((place v all h c.loop-event.event-index no_id c.loop-event-test.true).item, item_stands v all h c.loop-event.event-index no_id c.loop-event-test.true)

pub loop-event-preserved-then-branch : goal.loop-event-preserved-then-branch
loop-event-preserved-then-branch g c = λ h.
    let v = c.args.bench.now in
    let k = c.loop-event.event-index in
    let all = c.deref-event-items.result.now in
    let below = c.loop-event-test.true in
    let inside = (c.in_ok-is_in.ensures (place v all h k no_id below).item (item_stands v all h k no_id below)).0 c.if-branch.true in
    left_next v all h k no_id below (IsOutside c.args.mark.now) c.loop-event.ids.items (c.loop-event.invariant h) (λ out. out inside)

pub loop-event-preserved : goal.loop-event-preserved
loop-event-preserved g c = λ h.
    let v = c.args.bench.now in
    let k = c.loop-event.event-index in
    let all = c.deref-event-items.result.now in
    let below = c.loop-event-test.true in
    let told = (c.in_ok-is_in.ensures (place v all h k no_id below).item (item_stands v all h k no_id below)).1 in
    rw c.in_ok-push.ensures.items (chosen_next v all h k no_id below (IsOutside c.args.mark.now) c.loop-event.ids.items (c.loop-event.invariant h) (λ i. let t = told i in let f = c.if-branch.false in absurd cc))

pub returns : goal.returns
returns g c =
    let v = c.args.bench.now in
    let h = subst (λ es. AreInOrder (set_of v) IsAny es) (sym c.deref-event-items.ensures.value) c.in_ok-events.ensures in
    all_chosen (set_of v) (IsOutside c.args.mark.now) c.deref-event-items.result.now h c.loop-event.event-index c.loop-event-test.false c.loop-event.ids.items (c.loop-event.invariant h)
