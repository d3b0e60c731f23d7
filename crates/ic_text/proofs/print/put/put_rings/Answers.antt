use Rattle.ic_text.proofs.Rings.{one_ring}
use Rattle.ic_text.proofs.print.put.put_rings.Goals as goal

pub loop-i-preserved : goal.loop-i-preserved
loop-i-preserved c = one_ring _ _ _ c.args.rings c.loop-i.i c.args.first c.loop-i-test.true c.loop-i.invariant c.in_ok-put_ring.ensures
