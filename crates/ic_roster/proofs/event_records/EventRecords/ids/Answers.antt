use Rattle.std.proofs.Common.{◌≡◌, [], ◌∷◌, ◌++◌, List, map, Some, None, append-nil, sym, ap, ◌∙◌}
use Rattle.ic_slots.specs.Slots.{slot_of}
use Rattle.ic_name.specs.declared.ids.EventId.{EventId}
use Rattle.ic_roster.specs.Placed.{PlacedEvent}
use Rattle.ic_roster.specs.EventSlots.{event_lead}
use Rattle.ic_roster.proofs.Indexes.{indexed}
use Rattle.ic_roster.proofs.Entries.{AreHeld, all_held, first_held, others_held, listed_more}
use Rattle.ic_roster.proofs.EventFacts.{id_at, ids_shown}
use Rattle.ic_roster.proofs.event_records.EventRecords.ids.Goals as goal

pub loop-event-init : goal.loop-event-init
loop-event-init c =
    let left = c.into_iter-event-iterator.ensures.into_iter_gives ∙ c.iter-event-items.ensures.rest in
    (ap (λ xs. xs ++ map id_at c.into_iter-event-iterator.result) c.in_ok-ids.ensures.items, rw left (all_held c.self.inside.records.slots))

pub unreachable-requires : goal.unreachable-requires
unreachable-requires c =
    let held : AreHeld c.self.inside.records.slots ((c.in-Some.field-0-0, c.in-Some.event.now) ∷ c.next.new.self) = rw c.in-Some.ensures.steps at c.loop-event.invariant.1 in
    let here = first_held c.self.inside.records.slots _ _ held in
    let found : slot_of c.self.inside.leads c.lead.result.place ≡ Some c.in-Some.field-0-0 = rw c.lead.ensures (indexed event_lead _ c.self.inside.leads c.self.invariant.0.led _ c.in-Some.event.now here) in
    let none : None ≡ Some c.in-Some.field-0-0 = sym c.in_default.is ∙ c.get.ensures ∙ found in
    cc

pub loop-event-preserved : goal.loop-event-preserved
loop-event-preserved c =
    let held : AreHeld c.self.inside.records.slots ((c.in-Some.field-0-0, c.in-Some.event.now) ∷ c.next.new.self) = rw c.in-Some.ensures.steps at c.loop-event.invariant.1 in
    let here = first_held c.self.inside.records.slots _ _ held in
    let found : slot_of c.self.inside.leads c.lead.result.place ≡ Some c.in-Some.field-0-0 = rw c.lead.ensures (indexed event_lead _ c.self.inside.leads c.self.invariant.0.led _ c.in-Some.event.now here) in
    let both : Some c.in-Some-get.slot ≡ Some c.in-Some.field-0-0 = sym c.in-Some-get.is ∙ c.get.ensures ∙ found in
    let same : c.in-Some-get.slot ≡ c.in-Some.field-0-0 = cc in
    let id : EventId = record { slot = c.in-Some-get.slot; line = c.line.result } in
    let shown : id ≡ id_at (c.in-Some.field-0-0, c.in-Some.event.now) = (λ u. record { slot = same u; line = c.line.ensures u }) in
    let all : c.loop-event.ids.items ++ map id_at ((c.in-Some.field-0-0, c.in-Some.event.now) ∷ c.next.new.self) ≡ map id_at c.into_iter-event-iterator.result = rw c.in-Some.ensures.steps at c.loop-event.invariant.0 in
    (rw c.in_ok-push.ensures.items (listed_more c.loop-event.ids.items id _ _ _ all shown), others_held c.self.inside.records.slots _ _ held)

pub returns : goal.returns
returns c =
    let left : c.loop-event.event-iterator ≡ [] = c.in-None.ensures.steps.0 in
    sym (append-nil c.loop-event.ids.items) ∙ ap (λ es. c.loop-event.ids.items ++ map id_at es) (sym left) ∙ c.loop-event.invariant.0
    ∙ ap (map id_at) (c.into_iter-event-iterator.ensures.into_iter_gives ∙ c.iter-event-items.ensures.rest)
    ∙ ids_shown c.self.inside.records.slots ∙ ap (λ (xs : List PlacedEvent). map (λ x. x.id) xs) c.self.view_is
