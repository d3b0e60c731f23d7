use Rattle.std.proofs.Common.{◌++◌, map, take}
use Rattle.ic_path.specs.Orders.{Alike}
use Rattle.ic_set.specs.Joining.{moved_link}
use Rattle.ic_set.proofs.joining.add_start.Given as goal

abbrev pub invariant-loop-number : goal.invariant-loop-number
invariant-loop-number g l = Alike (take l.number (map (moved_link l.ids) l.links) ++ g.L.LinkStore.links l.initial.store) (g.L.LinkStore.links l.store)
