use Rattle.std.proofs.Common.{◌≡◌, ◌+◌, ◌-◌, drop, map, reverse, arith, ap}
use Rattle.ic_name.specs.Events.{pair}
use Rattle.ic_name.specs.declared.ids.EventId.{EventId}
use Rattle.ic_roster.specs.Rosters.{Stander}
use Rattle.ic_undo.proofs.PlacedEvents.{order_length, at_place, in_place, names_more}
use Rattle.ic_undo.proofs.backwards.names_backwards.Goals as goal

pub name_under-requires : goal.name_under-requires
name_under-requires g c =
    let end = c.loop-place.auto.place in
    let more = c.loop-place-test.true in
    let order = c.requires.0 in
    let named = c.requires.2 in
    let long = order_length order c.args.ids.now named in
    let at = at_place order c.args.ids.now (c.loop-place.place - 1) (record { slot = 0; line = 0 }) named (omega (arith, end, more, long)) in
    (at.placed, (c.requires.1.there at.placed (in_place order (c.loop-place.place - 1) _ at), ap (λ (d : EventId). d.line) at.under))

pub loop-place-preserved : goal.loop-place-preserved
loop-place-preserved g c = λ order there named.
    let end = c.loop-place.auto.place in
    let more = c.loop-place-test.true in
    let long = order_length order c.args.ids.now named in
    let next : c.loop-place.place ≡ c.loop-place.place - 1 + 1 = omega (arith, more) in
    let at = at_place order c.args.ids.now (c.loop-place.place - 1) (record { slot = 0; line = 0 }) named (omega (arith, end, more, long)) in
    let name : c.in_ok-name.name ≡ pair at.placed.event = c.in_ok-name.ensures at.placed (there at.placed (in_place order (c.loop-place.place - 1) _ at), ap (λ (d : EventId). d.line) at.under) in
    let before : map (λ (x : Stander). pair x.event) (reverse (drop (c.loop-place.place - 1 + 1) order)) ≡ c.loop-place.names.items = rw (← next) (c.loop-place.invariant order there named) in
    rw c.in_ok-push.ensures.items (names_more order (c.loop-place.place - 1) _ at c.loop-place.names.items c.in_ok-name.name name before)
