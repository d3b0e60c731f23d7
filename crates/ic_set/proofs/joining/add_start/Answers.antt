use Rattle.std.proofs.Common.{◌<◌, ◌≤◌, ◌∷◌, length, map, sym, take, drop, subst, ◌∙◌}
use Rattle.std.proofs.lemmas.List.{take_all, take-append-drop, length-map}
use Rattle.ic_path.specs.Orders.{Alike}
use Rattle.ic_path.proofs.Alikes.{alike_self}
use Rattle.ic_path.proofs.Errors.{at_error}
use Rattle.ic_link.specs.Links.{CanAdd}
use Rattle.ic_set.specs.Joining.{moved_link}
use Rattle.ic_link.proofs.AddedInTurn.{next_in, can_add_next}
use Rattle.ic_set.proofs.StartLinks.{moved_at, numbered_at}
use Rattle.ic_set.proofs.joining.add_start.Goals as goal

pub loop-number-init : goal.loop-number-init
loop-number-init g c = alike_self _

pub moved_spot-requires : goal.moved_spot-requires
moved_spot-requires g c = (numbered_at c.args.ids.now c.args.links.now c.loop-number.number c.in-Some.link c.requires.numbers (sym c.get.ensures ∙ c.in-Some.is)).0

pub moved_spot-requires-in-loop-number : goal.moved_spot-requires-in-loop-number
moved_spot-requires-in-loop-number g c = (numbered_at c.args.ids.now c.args.links.now c.loop-number.number c.in-Some.link c.requires.numbers (sym c.get.ensures ∙ c.in-Some.is)).1

pub add-requires : goal.add-requires
add-requires g c =
    let moved = map (moved_link c.args.ids.now) c.args.links.now in
    let its = moved_at c.args.ids.now c.args.links.now c.loop-number.number c.in-Some.link c.in-Some.link (sym c.get.ensures ∙ c.in-Some.is) in
    let here : c.loop-number.number < length moved = rw (length-map c.args.links.now (moved_link c.args.ids.now), sym c.len-number-end.ensures) c.loop-number-test.true in
    rw (c.moved_spot.ensures, c.moved_spot-in-loop-number.ensures)
    (subst (CanAdd (g.L.LinkStore.links c.loop-number.store)) its (can_add_next moved _ _ c.loop-number.number c.in-Some.link here c.requires.slim c.requires.own_ids c.loop-number.invariant))

pub returns-in_err-add-clause-some : goal.returns-in_err-add-clause-some
returns-in_err-add-clause-some g c =
    let i = c.loop-number.number in
    let moved = map (moved_link c.args.ids.now) c.args.links.now in
    at_error c.from_residual.result (take i moved, drop i moved, sym (take-append-drop i moved), rw c.in_err-add.ensures.err c.loop-number.invariant)

pub loop-number-preserved : goal.loop-number-preserved
loop-number-preserved g c =
    let moved = map (moved_link c.args.ids.now) c.args.links.now in
    let its = moved_at c.args.ids.now c.args.links.now c.loop-number.number c.in-Some.link c.in-Some.link (sym c.get.ensures ∙ c.in-Some.is) in
    let here : c.loop-number.number < length moved = rw (length-map c.args.links.now (moved_link c.args.ids.now), sym c.len-number-end.ensures) c.loop-number-test.true in
    let put = rw (c.moved_spot.ensures, c.moved_spot-in-loop-number.ensures) at c.in_ok-add.ensures.ok in
    next_in moved _ _ _ c.loop-number.number c.in-Some.link here c.loop-number.invariant
    (subst (λ l. Alike (l ∷ g.L.LinkStore.links c.loop-number.store) (g.L.LinkStore.links c.add.new.self)) (sym its) put)

pub returns-clause-added : goal.returns-clause-added
returns-clause-added g c =
    let moved = map (moved_link c.args.ids.now) c.args.links.now in
    let over : length moved ≤ c.loop-number.number = rw (length-map c.args.links.now (moved_link c.args.ids.now), sym c.len-number-end.ensures) c.loop-number-test.false in
    rw (take_all c.loop-number.number moved over) at c.loop-number.invariant
