use Rattle.std.proofs.Common.{◌≡◌, Some, None, sym, ap, ◌∙◌}
use Rattle.std.specs.Option.{option_copied}
use Rattle.ic_slots.specs.Slots.{slot_of}
use Rattle.ic_roster.specs.Slots.{slot_at}
use Rattle.ic_roster.specs.AgentSlots.{agent_place}
use Rattle.ic_roster.proofs.Options.{if_none}
use Rattle.ic_roster.proofs.Indexes.{not_vacant}
use Rattle.ic_roster.proofs.AgentFacts.{is_at_place, none_at_place}
use Rattle.ic_roster.proofs.agent_records.AgentRecords.at.Goals as goal

pub returns-in_err-slot-clause-absent : goal.returns-in_err-slot-clause-absent
returns-in_err-slot-clause-absent c =
    let lacks : slot_of c.self.inside.slots c.args.name.place ≡ None = sym c.in_err-slot.ensures in
    rw (← c.self.view_is) (if_none c.from_residual.result _ (none_at_place _ c.self.inside.slots c.self.invariant c.args.name.place lacks))

pub unreachable-requires : goal.unreachable-requires
unreachable-requires c =
    let found : slot_of c.self.inside.slots c.args.name.place ≡ Some c.in_ok-slot.slot = sym c.in_ok-slot.ensures in
    let vacant : slot_at c.self.inside.records.slots c.in_ok-slot.slot ≡ None = sym (sym (ap option_copied c.in_default.is) ∙ c.get-2.ensures) in
    not_vacant agent_place _ c.self.inside.slots c.self.invariant c.args.name.place c.in_ok-slot.slot found vacant

pub returns-clause-found : goal.returns-clause-found
returns-clause-found c =
    let found : slot_of c.self.inside.slots c.args.name.place ≡ Some c.in_ok-slot.slot = sym c.in_ok-slot.ensures in
    let here : slot_at c.self.inside.records.slots c.in_ok-slot.slot ≡ Some c.in-Some.agent.now = sym c.in-Some.ensures in
    rw (← c.self.view_is) (is_at_place _ c.self.inside.slots c.self.invariant c.args.name c.in_ok-slot.slot _ found here)
