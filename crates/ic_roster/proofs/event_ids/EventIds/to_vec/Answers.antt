use Rattle.std.proofs.Common.{◌≡◌, Some, [], ◌∷◌, ◌++◌, map, get_or, sym, ap, ◌∙◌}
use Rattle.std.proofs.lemmas.List.{map_more, take_all}
use Rattle.ic_roster.specs.Slots.{slot_at}
use Rattle.ic_roster.specs.EventSlots.{id_in}
use Rattle.ic_roster.proofs.LinkedEvents.{id_held}
use Rattle.ic_roster.proofs.event_ids.EventIds.to_vec.Goals as goal

pub loop-slot-preserved : goal.loop-slot-preserved
loop-slot-preserved c =
    let slots = c.self.inside.records.now.slots in
    let ks = c.self.inside.slots.now in
    let i = c.loop-slot.slot-index in
    let k = get_or ks i 0 in
    let h : slot_at slots k ≡ Some c.in-Some.event.now = sym c.in-Some.ensures in
    let id : id_in slots k ≡ record { slot = k; line = c.line.result } = id_held slots k c.in-Some.event.now h ∙ λ u. record { slot = k; line = sym c.line.ensures u } in
    rw (c.in_ok-push.ensures.items, map_more (id_in slots) ks i 0 c.loop-slot-test.true, id) (ap (λ ds. ds ++ record { slot = k; line = c.line.result } ∷ []) c.loop-slot.invariant)

pub returns : goal.returns
returns c = c.loop-slot.invariant ∙ ap (map (id_in c.self.inside.records.now.slots)) (take_all c.loop-slot.slot-index c.self.inside.slots.now c.loop-slot-test.false) ∙ c.self.view_is
