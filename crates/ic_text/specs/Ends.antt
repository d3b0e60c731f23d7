-- The ends of links by the ports that they are.
use Rattle.ic_name.specs.declared.ports.Port.{Port}
use Rattle.ic_name.specs.declared.ports.Port.TheVariants as ports
use Rattle.ic_text.specs.Grammar.{port_of}
use Rattle.ic_start.specs.declared.links.End.{End}
use Rattle.ic_start.specs.declared.links.End.TheVariants as the_ends

-- the port that an end is
abbrev pub port_of_end : End → Port
port_of_end (the_ends.Agent i n) = port_of n i
port_of_end (the_ends.Name j) = ports.Name j
