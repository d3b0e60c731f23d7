use Rattle.std.proofs.Common.{◌≡◌, Some, None, sym, ap, ◌∙◌}
use Rattle.std.specs.Option.{option_copied}
use Rattle.ic_slots.specs.Slots.{slot_of}
use Rattle.ic_roster.specs.Slots.{slot_at}
use Rattle.ic_roster.specs.EventSlots.{event_lead}
use Rattle.ic_roster.proofs.Options.{if_none}
use Rattle.ic_roster.proofs.Indexes.{not_vacant}
use Rattle.ic_roster.proofs.EventFacts.{lead_found, lead_absent}
use Rattle.ic_roster.proofs.event_records.EventRecords.led_by.Goals as goal

pub returns-in_err-slot-clause-absent : goal.returns-in_err-slot-clause-absent
returns-in_err-slot-clause-absent c =
    let lacks : slot_of c.self.inside.leads c.args.lead.place ≡ None = sym c.in_err-slot.ensures in
    rw (← c.self.view_is) (if_none c.from_residual.result _ (lead_absent _ c.self.inside.leads c.self.invariant.0 c.args.lead.place lacks))

pub unreachable-requires : goal.unreachable-requires
unreachable-requires c =
    let found : slot_of c.self.inside.leads c.args.lead.place ≡ Some c.in_ok-slot.slot = sym c.in_ok-slot.ensures in
    let vacant : slot_at c.self.inside.records.slots c.in_ok-slot.slot ≡ None = sym (sym (ap option_copied c.in_default.is) ∙ c.get-2.ensures) in
    not_vacant event_lead _ c.self.inside.leads c.self.invariant.0.led c.args.lead.place c.in_ok-slot.slot found vacant

pub returns-clause-found : goal.returns-clause-found
returns-clause-found c =
    let found : slot_of c.self.inside.leads c.args.lead.place ≡ Some c.in_ok-slot.slot = sym c.in_ok-slot.ensures in
    let here : slot_at c.self.inside.records.slots c.in_ok-slot.slot ≡ Some c.in-Some.event.now = sym c.in-Some.ensures in
    let x = lead_found _ c.self.inside.leads c.self.invariant.0 c.args.lead c.in_ok-slot.slot _ found here in
    rw (← c.self.view_is) (x.0, x.1, x.2 ∙ λ u. record { slot = c.in_ok-slot.slot; line = sym c.line.ensures u }, x.3)
