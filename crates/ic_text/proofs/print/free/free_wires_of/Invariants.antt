use Rattle.std.proofs.Common.{◌≡◌, List, map, take}
use Rattle.ic_name.specs.Names.{Name}
use Rattle.ic_net.specs.Placed.{free_at}
use Rattle.ic_text.specs.Lines.{lent_texts}
use Rattle.ic_text.specs.NetText.{free_wires}
use Rattle.ic_text.proofs.print.free.free_wires_of.Given as goal

abbrev pub invariant-loop-number : goal.invariant-loop-number
invariant-loop-number l = (ns : List Name) → map lent_texts l.wires.entries ≡ free_wires l.names (map (free_at ns) (take l.number-index l.frees))
