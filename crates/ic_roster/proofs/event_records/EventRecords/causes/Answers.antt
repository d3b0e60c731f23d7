use Rattle.std.proofs.Common.{◌≡◌, [], Some, map, ap, ◌∙◌, sym, subst}
use Rattle.std.specs.Prelude.{option_map, unwrap_or, All, IsSome}
use Rattle.ic_roster.specs.KeptEvents.{KeptEvent}
use Rattle.ic_roster.specs.Slots.{slot_at}
use Rattle.ic_roster.specs.EventSlots.{id_in}
use Rattle.ic_roster.specs.Records.{causes_at}
use Rattle.ic_roster.proofs.LinkedEvents.{causes_filled, causes_of}
use Rattle.ic_roster.proofs.EventFacts.{id_absent, id_elsewhere, id_there}
use Rattle.ic_roster.proofs.event_records.EventRecords.causes.Goals as goal
use Rattle.ic_roster.proofs.event_records.EventRecords.causes.Goals.{in_default-via-in-Some+else-line-id, in_default-via-in_default}

pub new-requires : goal.new-requires
new-requires c =
    let slots = c.self.inside.records.slots in
    let h : slot_at slots c.args.id.slot ≡ Some c.in-Some.event.now = sym c.in-Some.ensures in
    let its : causes_at slots c.args.id.slot ≡ c.causes.result.now = ap (λ o. unwrap_or (option_map (λ (q : KeptEvent). q.causes) o) []) h ∙ sym c.causes.ensures in
    subst (λ ks. All (λ k. IsSome (slot_at slots k)) ks) its (causes_filled slots c.self.invariant.1 c.args.id.slot)

pub returns-in-Some-clause-causes : goal.returns-in-Some-clause-causes
returns-in-Some-clause-causes c =
    let slots = c.self.inside.records.slots in
    let h : slot_at slots c.args.id.slot ≡ Some c.in-Some.event.now = sym c.in-Some.ensures in
    let its : causes_at slots c.args.id.slot ≡ c.causes.result.now = ap (λ o. unwrap_or (option_map (λ (q : KeptEvent). q.causes) o) []) h ∙ sym c.causes.ensures in
    rw (← c.self.view_is) (λ x i e. c.new.ensures ∙ ap (map (id_in slots)) (sym its) ∙ causes_of slots c.args.id x i e)

pub returns-in-Some-clause-absent : goal.returns-in-Some-clause-absent
returns-in-Some-clause-absent c =
    let slots = c.self.inside.records.slots in
    let h : slot_at slots c.args.id.slot ≡ Some c.in-Some.event.now = sym c.in-Some.ensures in
    let x = id_there slots c.args.id c.in-Some.event.now h (sym c.line.ensures ∙ c.if-line-id.true) in
    rw (← c.self.view_is) (λ none. absurd (none x.0 x.1 x.2))

pub returns-in_default-clause-causes : goal.returns-in_default-clause-causes
returns-in_default-clause-causes c = rw (← c.self.view_is) (λ x i e. absurd (elim c.in_default.branch [
  | in_default-via-in-Some+else-line-id w ↦ id_elsewhere c.self.inside.records.slots c.args.id w.in-Some.event.now (sym w.in-Some.ensures) (λ l. w.if-line-id.false (w.line.ensures ∙ l)) x i e
  | in_default-via-in_default w ↦ id_absent c.self.inside.records.slots c.args.id (sym w.in_default.ensures) x i e
]))
