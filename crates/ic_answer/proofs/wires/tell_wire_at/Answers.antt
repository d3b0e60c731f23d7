-- The wire and its makers are those of the machine's state.
use Rattle.std.proofs.Common.{subst}
use Rattle.std.specs.Prelude.{Option, IfNone, IfSome}
use Rattle.ic_name.specs.declared.ports.Port.{Port}
use Rattle.ic_path.specs.Orders.{IsIn}
use Rattle.ic_path.proofs.InLists.{all_of_each}
use Rattle.ic_theory.specs.Wires.{IsWire}
use Rattle.ic_roster.specs.Rosters.{Stander}
use Rattle.ic_set.specs.Views.{standing}
use Rattle.ic_set.specs.Wires.{IsWireAt}
use Rattle.ic_set.specs.declared.wires.Wire.{Wire}
use Rattle.ic_journal.specs.Views.{set_of}
use Rattle.ic_answer.proofs.WiredEvents.{tells_wire, tells_no_wire}
use Rattle.ic_answer.proofs.wires.tell_wire_at.Goals as goal

pub returns-in_ok-wire_text-in-Some : goal.returns-in_ok-wire_text-in-Some
returns-in_ok-wire_text-in-Some g c =
    let v = c.args.bench.now in
    let w = subst (λ (o : Option Wire). IfSome o (λ x. IsWireAt (set_of v) c.args.port.now x.far x.makers.items)) c.in-Some.is c.in_ok-wire.ensures.found in
    let order = w.made_by.order in
    let there = all_of_each (λ (y : Stander). IsIn y v.events) order (λ y i. (w.made_by.each.only y i).0) in
    tells_wire v c.lawful.ensures c.args.port.now c.in-Some.wire.far c.in-Some.wire.makers.items w c.in_ok-wire_text-in-Some.field-0.items (c.in_ok-wire_text-in-Some.ensures order there w.made_by.named)

pub returns-in-None : goal.returns-in-None
returns-in-None g c =
    let v = c.args.bench.now in
    tells_no_wire v c.args.port.now (subst (λ (o : Option Wire). IfNone o ((q : Port) → IsWire v.start (standing (set_of v)) c.args.port.now q → ⊥)) c.in-None.is c.in_ok-wire.ensures.absent)
