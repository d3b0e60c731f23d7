use Rattle.std.proofs.Common.{◌≡◌, None, Some, sym, ◌∙◌}
use Rattle.ic_roster.specs.Placed.{child_in}
use Rattle.ic_roster.specs.Slots.{slot_at}
use Rattle.ic_roster.proofs.AgentFacts.{none_under, other_under}
use Rattle.ic_roster.proofs.ChildSerials.{serial_of, serial_other}
use Rattle.ic_roster.proofs.agent_records.AgentRecords.remove_child.Goals as goal

pub returns-in_default-clause-gone : goal.returns-in_default-clause-gone
returns-in_default-clause-gone c =
    let h : slot_at c.self.inside.records.slots c.args.slot ≡ None = sym c.in_default.ensures in
    rw (← c.self.view_is) (λ x i e. absurd (none_under _ (child_in c.args.line c.args.slot) h x i e))

pub returns-then-eq-clause-unchanged : goal.returns-then-eq-clause-unchanged
returns-then-eq-clause-unchanged c =
    let serial = serial_of c.in-Some.agent.now.serial c.args.line c.checked_sub.result c.checked_sub.ensures (sym c.eq.ensures) c.if-eq.true in
    λ none. c.remove.ensures.unchanged (λ x i e. none x i (e ∙ λ u. record { slot = c.args.slot; serial = serial u }))

pub returns-else-eq-clause-gone : goal.returns-else-eq-clause-gone
returns-else-eq-clause-gone c =
    let h : slot_at c.self.inside.records.slots c.args.slot ≡ Some c.in-Some.agent.now = sym c.in-Some.ensures in
    let other = serial_other c.in-Some.agent.now.serial c.args.line c.checked_sub.result c.checked_sub.ensures (sym c.eq.ensures) c.if-eq.false in
    rw (← c.self.view_is) (λ x i e. absurd (other_under _ (child_in c.args.line c.args.slot) _ h other x i e))
