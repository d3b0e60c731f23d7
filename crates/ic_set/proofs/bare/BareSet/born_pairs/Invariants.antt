use Rattle.ic_set.proofs.BornPairs.{Looked}
use Rattle.ic_set.proofs.bare.BareSet.born_pairs.Given as goal

abbrev pub invariant-loop-place : goal.invariant-loop-place
invariant-loop-place g l = Looked l.self.set (g.L.LinkStore.links l.self-inside.store) l.event l.place l.pairs
