use Rattle.std.proofs.Common.{◌≡◌, ◌++◌, map}
use Rattle.std.specs.List.{flat_map}
use Rattle.ic_text.specs.Lines.{lent_texts}
use Rattle.ic_text.specs.NetText.{free_line}
use Rattle.ic_text.proofs.print.free.put_free_wires.Given as goal

abbrev pub invariant-loop-near : goal.invariant-loop-near
invariant-loop-near l = l.out.items ++ flat_map free_line (map lent_texts l.near-iterator) ≡ l.fn.out.items ++ flat_map free_line (map lent_texts l.initial.near-iterator)
