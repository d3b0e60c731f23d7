use Rattle.ic_command.proofs.PlacesNamed.{names_port}
use Rattle.ic_command.proofs.place.port_of.Goals as goal

pub returns-in-Some-2 : goal.returns-in-Some-2
returns-in-Some-2 c =
    names_port c.args.agent.now c.args.port.now c.in-Some-2.name c.in-Some.number c.in_ok-name.field-0 c.in_ok-number.field-0 c.in_ok-name.ensures c.in-Some-2.is c.in_ok-number.ensures c.in-Some.is
