use Rattle.std.proofs.Common.{◌↔◌, ◌∷◌, drop, get_or, map, ap, ◌+◌}
use Rattle.std.proofs.lemmas.List.{drop_more, drop_all}
use Rattle.ic_roster.specs.declared.agent_records.PlacedAgent.{PlacedAgent}
use Rattle.ic_roster.specs.Placed.{child_in}
use Rattle.ic_roster.proofs.GoneAgents.{IsLeft, one_goes, next_goes, all_left}
use Rattle.ic_roster.proofs.agent_records.AgentRecords.remove_children.Goals as goal

pub loop-slot-init : goal.loop-slot-init
loop-slot-init c = λ m. (λ h. h, λ h. h)

pub loop-slot-preserved : goal.loop-slot-preserved
loop-slot-preserved c =
    let slots = c.args.slots.now in
    let i = c.loop-slot.slot-index in
    let id = child_in c.args.line in
    let was : (m : PlacedAgent) → IsLeft c.loop-slot.self (id (get_or slots i 0) ∷ map id (drop (i + 1) slots)) m ↔ IsLeft c.args.self.now (map id slots) m = rw (drop_more slots i 0 c.loop-slot-test.true) at c.loop-slot.invariant in
    next_goes c.loop-slot.self c.remove_child.new.self c.args.self.now (id (get_or slots i 0)) (map id (drop (i + 1) slots)) (map id slots)
    (one_goes c.loop-slot.self c.remove_child.new.self (id (get_or slots i 0)) c.lawful.ensures c.remove_child.ensures.gone c.remove_child.ensures.left c.remove_child.ensures.unchanged) was

pub returns : goal.returns
returns c = all_left c.loop-slot.self c.args.self.now _ (map (child_in c.args.line) c.args.slots.now) (ap (map (child_in c.args.line)) (drop_all c.loop-slot.slot-index c.args.slots.now c.loop-slot-test.false)) c.loop-slot.invariant
