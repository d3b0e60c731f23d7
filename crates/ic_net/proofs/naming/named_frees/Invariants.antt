use Rattle.std.proofs.Common.{◌≡◌, map, take}
use Rattle.ic_net.specs.Placed.{free_at}
use Rattle.ic_net.proofs.naming.named_frees.Given as goal

abbrev pub invariant-loop-number : goal.invariant-loop-number
invariant-loop-number l = l.named.items ≡ map (free_at l.names) (take l.number-index l.frees)
