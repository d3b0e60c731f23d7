use Rattle.std.proofs.Common.{◌≡◌, ◌≢◌, [], Some, None, map, ap, ◌∙◌, sym, subst}
use Rattle.std.specs.Prelude.{option_map, unwrap_or, All, IsSome}
use Rattle.ic_roster.specs.KeptEvents.{KeptEvent}
use Rattle.ic_roster.specs.Placed.{AreUsers}
use Rattle.ic_roster.specs.Slots.{slot_at}
use Rattle.ic_roster.specs.EventSlots.{id_in, events_in}
use Rattle.ic_roster.specs.Records.{dependents_at}
use Rattle.ic_roster.proofs.LinkedEvents.{id_is, users_filled, linked_users, absent_users}
use Rattle.ic_roster.proofs.event_records.EventRecords.dependents.Goals as goal
use Rattle.ic_roster.proofs.event_records.EventRecords.dependents.Goals.{in_default-via-in-Some+else-line-id, in_default-via-in_default}

pub new-requires : goal.new-requires
new-requires c =
    let slots = c.self.inside.records.slots in
    let h : slot_at slots c.args.id.slot ≡ Some c.in-Some.event.now = sym c.in-Some.ensures in
    let its : dependents_at slots c.args.id.slot ≡ c.dependents.result.now = ap (λ o. unwrap_or (option_map (λ (q : KeptEvent). q.dependents) o) []) h ∙ sym c.dependents.ensures in
    subst (λ ks. All (λ k. IsSome (slot_at slots k)) ks) its (users_filled slots c.self.invariant.1 c.args.id.slot)

pub returns-in-Some : goal.returns-in-Some
returns-in-Some c =
    let slots = c.self.inside.records.slots in
    let h : slot_at slots c.args.id.slot ≡ Some c.in-Some.event.now = sym c.in-Some.ensures in
    let its : dependents_at slots c.args.id.slot ≡ c.dependents.result.now = ap (λ o. unwrap_or (option_map (λ (q : KeptEvent). q.dependents) o) []) h ∙ sym c.dependents.ensures in
    let id = id_is slots c.args.id c.in-Some.event.now h (sym c.line.ensures ∙ c.if-line-id.true) in
    rw (← c.self.view_is, c.new.ensures) (subst (λ ks. AreUsers (events_in slots) c.args.id (map (id_in slots) ks)) its (linked_users slots c.self.invariant.1 c.args.id id))

pub returns-in_default : goal.returns-in_default
returns-in_default c =
    let slots = c.self.inside.records.slots in
    let other : (r : KeptEvent) → slot_at slots c.args.id.slot ≡ Some r → r.line ≢ c.args.id.line = λ r h l. elim c.in_default.branch [
      | in_default-via-in-Some+else-line-id w ↦ (
          let held : slot_at slots c.args.id.slot ≡ Some w.in-Some.event.now = sym w.in-Some.ensures in
          let both : Some r ≡ Some w.in-Some.event.now = sym h ∙ held in
          let same : r ≡ w.in-Some.event.now = cc in
          w.if-line-id.false (w.line.ensures ∙ ap (λ (q : KeptEvent). q.line) (sym same) ∙ l))
      | in_default-via-in_default w ↦ (let vacant : slot_at slots c.args.id.slot ≡ None = sym w.in_default.ensures in let both : None ≡ Some r = sym vacant ∙ h in absurd cc)
    ] in
    rw (← c.self.view_is, c.new-in_default.ensures) (absent_users slots c.self.invariant.1 c.args.id other)
