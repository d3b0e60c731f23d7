use Rattle.std.proofs.Common.{map}
use Rattle.ic_text.specs.Lines.{lent_texts}
use Rattle.ic_text.proofs.FreeWires.{free_turn}
use Rattle.ic_text.proofs.print.free.free_wires_of.Goals as goal

pub loop-number-preserved : goal.loop-number-preserved
loop-number-preserved c =
    λ ns.
    free_turn ns c.args.names.now c.args.frees.now c.loop-number.number-index _ (map lent_texts c.loop-number.wires.entries) (map lent_texts c.enter_free_wire.new.wires.entries)
    c.loop-number-test.true (c.loop-number.invariant ns) (c.in_ok-enter_free_wire.ensures ns)
