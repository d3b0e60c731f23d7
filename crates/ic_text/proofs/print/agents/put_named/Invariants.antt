use Rattle.std.proofs.Common.{◌≡◌, ◌++◌, map, take}
use Rattle.std.specs.List.{flat_map}
use Rattle.ic_net.specs.Placed.{listed_at}
use Rattle.ic_text.specs.AgentsText.{named_line}
use Rattle.ic_text.specs.NumberedWires.{wires_in}
use Rattle.ic_text.proofs.print.agents.put_named.Given as goal

abbrev pub invariant-loop-line : goal.invariant-loop-line
invariant-loop-line l = l.out.items ≡ l.fn.out.items ++ flat_map (named_line l.names (wires_in l.sheet)) (map (listed_at l.sheet.lists.names.now) (take l.line l.sheet.lists.agents.now))
