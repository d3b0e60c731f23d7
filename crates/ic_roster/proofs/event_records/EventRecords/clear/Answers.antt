use Rattle.std.proofs.Common.{◌≡◌, ℕ, ◌∷◌, map, ap, ◌∙◌}
use Rattle.slab.specs.Slab.{entries_from}
use Rattle.ic_roster.specs.KeptEvents.{KeptEvent}
use Rattle.ic_roster.specs.EventSlots.{id_in, event_by, event_line, event_lead}
use Rattle.ic_roster.specs.Placed.{child_in}
use Rattle.ic_roster.proofs.ClearedEvents.{only_entries, only_others, only_none, none_linked, children_gone, all_gone, spared_unborn}
use Rattle.ic_roster.proofs.OwnNumbers.{own_none}
use Rattle.ic_roster.proofs.event_records.EventRecords.clear.Goals as goal

pub loop-event-init : goal.loop-event-init
loop-event-init c =
    let left : c.into_iter-event-iterator.result ≡ entries_from 0 c.self.inside.records.slots = c.into_iter-event-iterator.ensures.into_iter_gives ∙ c.iter-event-items.ensures.rest in
    record {
      leads = rw left (only_entries event_lead _ c.self.inside.leads c.self.invariant.0.led);
      agents = λ m. (λ h. h, λ h. h);
    }

pub loop-event-preserved : goal.loop-event-preserved
loop-event-preserved c =
    let e : ℕ × KeptEvent = (c.in-Some.field-0-0, c.in-Some.event.now) in
    let rest = c.next.new.self in
    let steps : c.loop-event.event-iterator ≡ e ∷ rest = c.in-Some.ensures.steps in
    let was = c.loop-event.invariant in
    record {
      leads = only_others event_lead e rest _ c.take.new.self (rw steps at was.leads) (rw c.lead.ensures at c.take.ensures.taken);
      agents = children_gone c.loop-event.agents c.remove_children.new.self c.args.agents.now e rest _ _ (λ u. map (child_in (c.line.ensures u)) (c.born.ensures u)) c.remove_children.ensures (rw steps at was.agents);
    }

pub invariant_of-self : goal.invariant_of-self
invariant_of-self c =
    let none = c.clear.ensures.empty in
    let over = c.in-None.ensures.steps.0 in
    let was = c.loop-event.invariant in
    (record { lined = own_none event_line _ none; led = only_none event_lead _ _ _ none over was.leads }, none_linked _ none)

pub returns-clause-agents : goal.returns-clause-agents
returns-clause-agents c =
    let slots = c.self.inside.records.slots in
    let entries = c.into_iter-event-iterator.result in
    let left : entries ≡ entries_from 0 slots = c.into_iter-event-iterator.ensures.into_iter_gives ∙ c.iter-event-items.ensures.rest in
    let seen : map (event_by (id_in slots)) entries ≡ c.args.self.now = ap (map (event_by (id_in slots))) left ∙ c.self.view_is in
    let over = all_gone c.loop-event.agents c.args.agents.now _ entries c.in-None.ensures.steps.0 c.loop-event.invariant.agents in
    let unborn = spared_unborn (id_in slots) c.args.agents.now entries in
    rw (← seen) (λ m. (λ i. (unborn m).0 ((over m).0 i), λ h. (over m).1 ((unborn m).1 h)))
