use Rattle.std.proofs.Common.{◌≡◌, Some, None, sym, ◌∙◌}
use Rattle.ic_roster.specs.Slots.{slot_at}
use Rattle.ic_roster.proofs.Options.{if_none}
use Rattle.ic_roster.proofs.EventFacts.{id_absent, id_elsewhere, event_of_id}
use Rattle.ic_roster.proofs.event_records.EventRecords.get.Goals as goal

pub returns-in_err-event-clause-absent : goal.returns-in_err-event-clause-absent
returns-in_err-event-clause-absent c =
    let h : slot_at c.self.inside.records.slots c.args.id.slot ≡ None = sym c.in_err-event.ensures in
    rw (← c.self.view_is) (if_none c.from_residual.result _ (id_absent c.self.inside.records.slots c.args.id h))

pub returns-then-line-id-clause-absent : goal.returns-then-line-id-clause-absent
returns-then-line-id-clause-absent c =
    let h : slot_at c.self.inside.records.slots c.args.id.slot ≡ Some c.in_ok-event.event.now = sym c.in_ok-event.ensures in
    rw (← c.self.view_is) (id_elsewhere c.self.inside.records.slots c.args.id c.in_ok-event.event.now h (λ e. c.if-line-id.true (c.line.ensures ∙ e)))

pub returns-clause-found : goal.returns-clause-found
returns-clause-found c =
    let h : slot_at c.self.inside.records.slots c.args.id.slot ≡ Some c.in_ok-event.event.now = sym c.in_ok-event.ensures in
    rw (← c.self.view_is) (event_of_id c.self.inside.records.slots c.args.id c.in_ok-event.event.now _ h (sym c.line.ensures ∙ c.if-line-id.false) c.interaction.ensures c.rank.ensures)
