-- The wires that have numbers.
use Rattle.std.specs.Prelude.{List}
use Rattle.ic_name.specs.declared.ports.Port.{Port}
use Rattle.ic_text.specs.Lists.{agents_of}
use Rattle.ic_text.specs.NetText.{numbered_wires}
use Rattle.ic_text.specs.declared.print.numbered.NumberedAgents.{NumberedAgents}

-- the wires that the agents' lines show by numbers
abbrev pub wires_in : NumberedAgents → List Port
wires_in n = numbered_wires (agents_of n.lists)
