use Rattle.std.proofs.Common.{◌≡◌, ◌↔◌, None, map, sym, subst, ◌∙◌}
use Rattle.ic_path.specs.Orders.{IsIn, IsOnce}
use Rattle.ic_slots.specs.Slots.{Gives}
use Rattle.ic_roster.specs.declared.agent_records.PlacedAgent.{PlacedAgent}
use Rattle.ic_roster.specs.Placed.{child_in}
use Rattle.ic_roster.specs.RecordChanges.{Changes, Takes}
use Rattle.ic_roster.specs.EventSlots.{id_in, event_by, event_line, event_lead}
use Rattle.ic_roster.proofs.Slots.{emptied_by_remove, shown_left}
use Rattle.ic_roster.proofs.EventFacts.{holds_event, line_kept, keys_taken, event_gone, event_given}
use Rattle.ic_roster.proofs.RecordFacts.{same_events}
use Rattle.ic_roster.proofs.SameLinks.{same_indexed}
use Rattle.ic_roster.proofs.LinkedEvents.{id_is, free_of}
use Rattle.ic_roster.proofs.AddedLinks.{causes_here}
use Rattle.ic_roster.proofs.RemovedLinks.{removed_linked, others_shown}
use Rattle.ic_roster.proofs.event_records.EventRecords.remove.Goals as goal

pub returns-in_err-get-clause-gone : goal.returns-in_err-get-clause-gone
returns-in_err-get-clause-gone c = λ x i e. absurd (c.in_err-get.ensures.absent x i e)

pub returns-in_err-get-clause-children : goal.returns-in_err-get-clause-children
returns-in_err-get-clause-children c = λ x i e. absurd (c.in_err-get.ensures.absent x i e)

pub returns-in_err-get-clause-lead : goal.returns-in_err-get-clause-lead
returns-in_err-get-clause-lead c = λ x i e. absurd (c.in_err-get.ensures.absent x i e)

pub remove-event-requires : goal.remove-event-requires
remove-event-requires c = holds_event c.self.inside.records.slots c.args.self.now c.args.id _ c.self.view_is c.in_ok-get.ensures.found

pub take_at_each-requires : goal.take_at_each-requires
take_at_each-requires c =
    let emptied = emptied_by_remove c.self.inside.records c.remove-event.new.self c.args.id.slot c.remove-event.result c.remove-event.ensures.value c.remove-event.ensures.updates in
    subst (λ ks. IsOnce ks) (causes_here _ _ c.args.id.slot c.remove-event.result emptied ∙ sym c.causes.ensures) (c.self.invariant.1.causes_once c.args.id.slot)

pub invariant_of-self : goal.invariant_of-self
invariant_of-self c =
    let emptied = emptied_by_remove c.self.inside.records c.remove-event.new.self c.args.id.slot c.remove-event.result c.remove-event.ensures.value c.remove-event.ensures.updates in
    let line : event_line c.remove-event.result ≡ c.args.id.line = line_kept c.self.inside.records.slots c.args.self.now c.args.id _ c.remove-event.result c.self.view_is c.in_ok-get.ensures.found c.remove-event.ensures.value in
    let free = free_of c.self.inside.records.slots c.args.id (id_is c.self.inside.records.slots c.args.id c.remove-event.result c.remove-event.ensures.value line) (λ x i. c.requires x (subst (λ xs. IsIn x xs) c.self.view_is i)) in
    let takes : Gives (event_lead c.remove-event.result) None c.self.inside.leads c.take.new.self = rw c.lead-lead.ensures at c.take.ensures.taken in
    let keys = keys_taken _ _ c.self.inside.leads c.take.new.self c.args.id.slot c.remove-event.result c.self.invariant.0 emptied takes in (
      same_indexed _ _ c.take.new.self c.take_at_each.ensures.shows keys,
      removed_linked _ _ _ c.args.id.slot c.remove-event.result c.self.invariant.1 emptied free (subst (λ ks. Changes (Takes c.args.id.slot) ks c.remove-event.new.self.slots c.take_at_each.new.records.slots) c.causes.ensures c.take_at_each.ensures),
    )

pub returns-clause-gone : goal.returns-clause-gone
returns-clause-gone c =
    let emptied = emptied_by_remove c.self.inside.records c.remove-event.new.self c.args.id.slot c.remove-event.result c.remove-event.ensures.value c.remove-event.ensures.updates in
    let line : event_line c.remove-event.result ≡ c.args.id.line = line_kept c.self.inside.records.slots c.args.self.now c.args.id _ c.remove-event.result c.self.view_is c.in_ok-get.ensures.found c.remove-event.ensures.value in
    let free = free_of c.self.inside.records.slots c.args.id (id_is c.self.inside.records.slots c.args.id c.remove-event.result c.remove-event.ensures.value line) (λ x i. c.requires x (subst (λ xs. IsIn x xs) c.self.view_is i)) in
    rw (← c.self.view_is, same_events _ _ c.take_at_each.ensures.shows)
    (event_gone _ _ c.args.id c.remove-event.result emptied (others_shown _ _ c.args.id.slot c.remove-event.result emptied free))

pub returns-clause-left : goal.returns-clause-left
returns-clause-left c =
    let emptied = emptied_by_remove c.self.inside.records c.remove-event.new.self c.args.id.slot c.remove-event.result c.remove-event.ensures.value c.remove-event.ensures.updates in
    let line : event_line c.remove-event.result ≡ c.args.id.line = line_kept c.self.inside.records.slots c.args.self.now c.args.id _ c.remove-event.result c.self.view_is c.in_ok-get.ensures.found c.remove-event.ensures.value in
    let free = free_of c.self.inside.records.slots c.args.id (id_is c.self.inside.records.slots c.args.id c.remove-event.result c.remove-event.ensures.value line) (λ x i. c.requires x (subst (λ xs. IsIn x xs) c.self.view_is i)) in
    rw (← c.self.view_is, same_events _ _ c.take_at_each.ensures.shows)
    (λ x i. shown_left (event_by (id_in c.self.inside.records.slots)) _ _ c.args.id.slot c.remove-event.result emptied x
    (subst (λ ys. IsIn x ys) (sym (others_shown _ _ c.args.id.slot c.remove-event.result emptied free)) i))

pub returns-clause-children : goal.returns-clause-children
returns-clause-children c = rw (← c.self.view_is) (λ x i e.
    (let born = (event_given c.self.inside.records.slots c.args.id c.remove-event.result c.remove-event.ensures.value x i e).1 in
    subst (λ ids. (m : PlacedAgent) → IsIn m c.remove_children.new.self ↔ (IsIn m c.args.agents.now × (IsIn m.id ids → ⊥))) ((λ u. map (child_in (c.line.ensures u)) (c.born.ensures u)) ∙ born) c.remove_children.ensures))

pub returns-clause-lead : goal.returns-clause-lead
returns-clause-lead c = rw (← c.self.view_is) (λ x i e. c.lead-lead.ensures ∙ (event_given c.self.inside.records.slots c.args.id c.remove-event.result c.remove-event.ensures.value x i e).0)

pub returns-clause-absent : goal.returns-clause-absent
returns-clause-absent c = λ none. absurd (none _ c.in_ok-get.ensures.found.1 c.in_ok-get.ensures.found.2)

pub returns-clause-unchanged : goal.returns-clause-unchanged
returns-clause-unchanged c = λ none. absurd (none _ c.in_ok-get.ensures.found.1 c.in_ok-get.ensures.found.2)

pub returns-clause-left_agents : goal.returns-clause-left_agents
returns-clause-left_agents c = λ m i. ((c.remove_children.ensures m).0 i).0

pub returns-clause-spared : goal.returns-clause-spared
returns-clause-spared c = λ none. absurd (none _ c.in_ok-get.ensures.found.1 c.in_ok-get.ensures.found.2)
