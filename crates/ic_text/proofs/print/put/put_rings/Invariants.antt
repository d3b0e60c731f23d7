use Rattle.std.proofs.Common.{◌≡◌, ◌++◌, ◌+◌, ◌-◌}
use Rattle.ic_text.specs.NetText.{ring_lines}
use Rattle.ic_text.proofs.print.put.put_rings.Given as goal

abbrev pub invariant-loop-i : goal.invariant-loop-i
invariant-loop-i l = l.out.items ++ ring_lines (l.first + l.i) (l.rings - l.i) ≡ l.fn.out.items ++ ring_lines l.first l.rings
