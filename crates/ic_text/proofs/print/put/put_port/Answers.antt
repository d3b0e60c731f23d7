use Rattle.std.proofs.Common.{◌++◌, ◌∙◌, ap, sym}
use Rattle.std.proofs.lemmas.Result.{IfOk-equal}
use Rattle.ic_names.specs.Tables.{name_at}
use Rattle.ic_net.specs.Placed.{port_at}
use Rattle.ic_text.specs.Lists.{agent_on}
use Rattle.ic_text.specs.NetText.{numbered, port_label}
use Rattle.ic_text.specs.NumberedWires.{wires_in}
use Rattle.ic_text.proofs.Labels.{number_label}
use Rattle.ic_text.proofs.print.put.put_port.Goals as goal

pub returns-in-Of : goal.returns-in-Of
returns-in-Of c =
    let names = c.args.names.now in
    let table = c.args.sheet.now.lists.names.now in
    let wires = wires_in c.args.sheet.now in
    let agent = agent_on c.args.sheet.now.lists c.args.agent.now in
    let out = c.args.out.now.items in
    let label = number_label names wires agent c.args.port (name_at table c.in-Of.field-0.place) c.in-Of.field-1 c.number.result (sym (c.partner.ensures.port table) ∙ ap (port_at table) c.in-Of.is) c.number.ensures in
    IfOk-equal c.put_numbered.result c.put_numbered.new.out.items (out ++ numbered c.number.result) (out ++ port_label names wires agent c.args.port) c.put_numbered.ensures (ap (λ t. out ++ t) label)
