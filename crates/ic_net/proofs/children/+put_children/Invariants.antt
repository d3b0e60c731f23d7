use Rattle.std.proofs.Common.{length}
use Rattle.ic_net.proofs.children.+put_children.Given as goal

abbrev pub decreases-put_children : goal.decreases-put_children
decreases-put_children l = length l.kinds.now
