use Rattle.ic_text.proofs.print.free.enter_free_wire.Goals as goal
use Rattle.std.proofs.Common.{◌∙◌, ap, sym, map}
use Rattle.ic_net.specs.Placed.{port_at}
use Rattle.ic_text.specs.Lines.{lent_texts}
use Rattle.ic_text.proofs.FreeWires.{free_entered, free_passed, lent_insert, text_lt}

pub returns-in_ok-insert-in-Name : goal.returns-in_ok-insert-in-Name
returns-in_ok-insert-in-Name c =
    λ ns.
    let near = c.text_of-near.result in
    let far = c.text_of-far.result in
    let es = c.args.wires.now.entries in
    ap (map lent_texts) c.in_ok-insert-in-Name.ensures.entries ∙ lent_insert es near far
    ∙ free_entered c.args.names.now (map lent_texts es) c.args.number c.in-Name.other (port_at ns c.args.partner) near.now far.now (ap (port_at ns) c.in-Name.is) c.text_of-near.ensures c.text_of-far.ensures (sym (text_lt near.now far.now) ∙ sym c.lt.ensures ∙ c.if-lt.true)

pub returns-else-lt : goal.returns-else-lt
returns-else-lt c =
    λ ns.
    let near = c.text_of-near.result in
    let far = c.text_of-far.result in
    let es = c.args.wires.now.entries in
    free_passed c.args.names.now (map lent_texts es) c.args.number c.in-Name.other (port_at ns c.args.partner) near.now far.now (ap (port_at ns) c.in-Name.is) c.text_of-near.ensures c.text_of-far.ensures (sym (text_lt near.now far.now) ∙ sym c.lt.ensures ∙ c.if-lt.false)
