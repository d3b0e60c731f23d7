use Rattle.std.proofs.Common.{◌≡◌, ◌∙◌, ◌∷◌, List, Some, refl, sym, ap, subst}
use Rattle.std.specs.Prelude.{All, IsSome}
use Rattle.ic_path.proofs.Errors.{at_error}
use Rattle.ic_path.specs.Orders.{Alike, IsOnce}
use Rattle.ic_slots.specs.Slots.{Gives}
use Rattle.ic_roster.specs.declared.interaction.Interaction.{Interaction}
use Rattle.ic_roster.specs.Placed.{PlacedEvent, IsNewKey, AreKept}
use Rattle.ic_roster.specs.Slots.{slot_at, HoldsOneMore}
use Rattle.ic_roster.specs.EventSlots.{id_in, event_by, events_in, event_line, event_lead}
use Rattle.ic_roster.proofs.Slots.{filled_by_insert}
use Rattle.ic_roster.proofs.CauseLines.{lines_once}
use Rattle.ic_roster.proofs.EventFacts.{keys_entered}
use Rattle.ic_roster.proofs.RecordFacts.{same_events}
use Rattle.ic_roster.proofs.RecordLoops.{slots_of}
use Rattle.ic_roster.proofs.SameLinks.{same_linked, same_indexed, still_kept, still_seen}
use Rattle.ic_roster.proofs.LinkedEvents.{kept_filled, kept_ids, once_before}
use Rattle.ic_roster.proofs.AddedEvents.{rooms_with_event, event_linked, event_entered, event_made}
use Rattle.ic_roster.proofs.event_records.EventRecords.insert.Goals as goal

pub new-requires-clause-lines : goal.new-requires-clause-lines
new-requires-clause-lines c =
    lines_once c.self.inside.records.slots c.self.inside.leads c.args.line _ c.args.event.now.causes.now c.self.invariant.0
    (subst (λ xs. IsNewKey xs c.args.line c.args.event.now.interaction.lead.place) (sym c.self.view_is) c.requires.is_new)
    (subst (λ (xs : List PlacedEvent). AreKept xs c.args.event.now.causes.now) (sym c.self.view_is) c.requires.kept)
    c.requires.once

pub reserve_places-requires : goal.reserve_places-requires
reserve_places-requires c = kept_filled c.self.inside.records.slots c.args.event.now.causes.now (subst (λ (xs : List PlacedEvent). AreKept xs c.args.event.now.causes.now) (sym c.self.view_is) c.requires.kept)

pub invariant_of-self : goal.invariant_of-self
invariant_of-self c = (
  same_indexed _ _ c.self.inside.leads c.reserve_places.ensures.same.shows c.self.invariant.0,
  same_linked _ _ c.reserve_places.ensures.same c.self.invariant.1,
)

pub returns-in_err-reserve_places-clause-unchanged : goal.returns-in_err-reserve_places-clause-unchanged
returns-in_err-reserve_places-clause-unchanged c = at_error _ (same_events _ _ c.reserve_places.ensures.same.shows ∙ c.self.view_is)

pub invariant_of-self-in_err-slot : goal.invariant_of-self-in_err-slot
invariant_of-self-in_err-slot c =
    still_kept _ _ _ c.self.inside.leads c.self.inside.leads c.reserve_places.ensures.same c.reserve_slot.ensures.kept (λ q. refl) c.self.invariant

pub returns-in_err-slot-clause-unchanged : goal.returns-in_err-slot-clause-unchanged
returns-in_err-slot-clause-unchanged c = at_error _ (still_seen _ _ _ _ c.reserve_places.ensures.same c.reserve_slot.ensures.kept c.self.view_is)

pub invariant_of-self-in_err-reserve : goal.invariant_of-self-in_err-reserve
invariant_of-self-in_err-reserve c =
    still_kept _ _ _ c.self.inside.leads c.reserve.new.self c.reserve_places.ensures.same c.reserve_slot.ensures.kept c.reserve.ensures.kept c.self.invariant

pub returns-in_err-reserve-clause-unchanged : goal.returns-in_err-reserve-clause-unchanged
returns-in_err-reserve-clause-unchanged c = at_error _ (still_seen _ _ _ _ c.reserve_places.ensures.same c.reserve_slot.ensures.kept c.self.view_is)

pub put_at_each-requires-clause-once : goal.put_at_each-requires-clause-once
put_at_each-requires-clause-once c =
    let slots = c.self.inside.records.slots in
    let kept : AreKept (events_in slots) c.args.event.now.causes.now = subst (λ (xs : List PlacedEvent). AreKept xs c.args.event.now.causes.now) (sym c.self.view_is) c.requires.kept in
    once_before (id_in slots) (slots_of c.args.event.now.causes.now) (subst (λ ds. IsOnce ds) (sym (kept_ids slots c.args.event.now.causes.now kept)) c.requires.once)

pub put_at_each-requires-clause-room : goal.put_at_each-requires-clause-room
put_at_each-requires-clause-room c =
    let at : c.insert_reserved.result ≡ c.in_ok-slot.slot = c.insert_reserved.ensures.key ∙ c.in_ok-slot.ensures.slot in
    let filled = filled_by_insert c.reserve_places.new.records.slots c.reserve_slot.new.slab c.insert_reserved.new.self _ c.in_ok-slot.slot _ c.reserve_slot.ensures.kept at c.insert_reserved.ensures.was_vacant c.insert_reserved.ensures.updates in
    let kept : AreKept (events_in c.reserve_places.new.records.slots) c.args.event.now.causes.now = rw (same_events _ _ c.reserve_places.ensures.same.shows, c.self.view_is) c.requires.kept in
    rooms_with_event _ _ c.in_ok-slot.slot (slots_of c.args.event.now.causes.now) _ filled (kept_filled _ _ kept) c.in_ok-reserve_places.ensures.room

-- its slot is filled
filled : (c : goal.After-put_at_each) → HoldsOneMore c.reserve_slot.new.slab.slots c.insert_reserved.new.self.slots c.in_ok-slot.slot c.in_ok-record.record
filled c =
    let at : c.insert_reserved.result ≡ c.in_ok-slot.slot = c.insert_reserved.ensures.key ∙ c.in_ok-slot.ensures.slot in
    filled_by_insert _ c.reserve_slot.new.slab c.insert_reserved.new.self _ _ c.in_ok-record.record refl at c.insert_reserved.ensures.was_vacant c.insert_reserved.ensures.updates

-- what stood before, with room
seen : (c : goal.After-put_at_each) → events_in c.reserve_slot.new.slab.slots ≡ c.args.self.now
seen c = still_seen _ _ _ _ c.reserve_places.ensures.same c.reserve_slot.ensures.kept c.self.view_is

-- its causes stood
kept : (c : goal.After-put_at_each) → AreKept (events_in c.reserve_slot.new.slab.slots) c.args.event.now.causes.now
kept c = rw (seen c) c.requires.kept

-- the slots of its causes held records
causes_filled : (c : goal.After-put_at_each) → All (λ k. IsSome (slot_at c.reserve_slot.new.slab.slots k)) c.in_ok-record.record.causes
causes_filled c = rw c.in_ok-record.ensures.causes (kept_filled _ _ (kept c))

pub invariant_of-self-2 : goal.invariant_of-self-2
invariant_of-self-2 c =
    let r = c.in_ok-record.record in
    let line : r.line ≡ c.args.line = c.in_ok-record.ensures.line in
    let lead : event_lead r ≡ c.args.event.now.interaction.lead.place = ap (λ (i : Interaction). i.lead.place) c.in_ok-record.ensures.interaction in
    let before = still_kept _ _ c.reserve_slot.new.slab.slots c.self.inside.leads c.reserve.new.self c.reserve_places.ensures.same c.reserve_slot.ensures.kept c.reserve.ensures.kept c.self.invariant in
    let fresh : IsNewKey (events_in c.reserve_slot.new.slab.slots) (event_line r) (event_lead r) = rw (seen c, line, lead) c.requires.is_new in
    let gives : Gives (event_lead r) (Some c.in_ok-slot.slot) c.reserve.new.self c.put.new.self = subst (λ n. Gives n (Some c.in_ok-slot.slot) c.reserve.new.self c.put.new.self) (sym lead) c.put.ensures.put in
    let once : IsOnce (slots_of c.args.event.now.causes.now) = once_before (id_in c.reserve_slot.new.slab.slots) (slots_of c.args.event.now.causes.now) (subst (λ ds. IsOnce ds) (sym (kept_ids _ _ (kept c))) c.requires.once) in
    let keys = keys_entered _ _ c.reserve.new.self c.put.new.self c.in_ok-slot.slot r before.0 (filled c) fresh gives in (
      same_indexed _ _ c.put.new.self c.put_at_each.ensures.shows keys,
      event_linked _ _ c.in_ok-slot.slot (slots_of c.args.event.now.causes.now) r (filled c) (kept_filled _ _ (kept c)) _ before.1 c.in_ok-record.ensures.causes c.in_ok-record.ensures.none once c.put_at_each.ensures,
    )

pub returns-clause-entered : goal.returns-clause-entered
returns-clause-entered c =
    let before = still_kept _ _ c.reserve_slot.new.slab.slots c.self.inside.leads c.reserve.new.self c.reserve_places.ensures.same c.reserve_slot.ensures.kept c.reserve.ensures.kept c.self.invariant in
    let made = event_made _ c.in_ok-slot.slot c.args.line c.in_ok-record.record _ _ _ _ c.in_ok-record.ensures.line c.in_ok-record.ensures.interaction c.in_ok-record.ensures.rank c.in_ok-record.ensures.born c.in_ok-record.ensures.causes c.requires.children (kept c) in
    let more : Alike (event_by (id_in c.reserve_slot.new.slab.slots) (c.in_ok-slot.slot, c.in_ok-record.record) ∷ events_in c.reserve_slot.new.slab.slots) (events_in c.insert_reserved.new.self.slots) = event_entered _ _ c.in_ok-slot.slot c.in_ok-record.record before.1 (filled c) (causes_filled c) in
    (refl, rw (same_events _ _ c.put_at_each.ensures.shows, ← seen c) (subst (λ x. Alike (x ∷ events_in c.reserve_slot.new.slab.slots) (events_in c.insert_reserved.new.self.slots)) made more))
