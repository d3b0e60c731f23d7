use Rattle.std.proofs.Common.{◌≡◌, length, map, take}
use Rattle.ic_net.specs.Placed.{listed_at}
use Rattle.ic_text.specs.Lists.{agents_of}
use Rattle.ic_text.specs.NetText.{numbered_wires}
use Rattle.ic_text.specs.Numbers.{IsNumbering}
use Rattle.ic_text.proofs.print.numbers.number_wires.Given as goal

abbrev pub invariant-loop-line : goal.invariant-loop-line
invariant-loop-line l = (IsNumbering (agents_of l.lists) l.numbers (numbered_wires (map (listed_at l.lists.names.now) (take l.line l.lists.agents.now)))) × (length l.numbers.ports.items ≡ length l.lists.agents.now)
