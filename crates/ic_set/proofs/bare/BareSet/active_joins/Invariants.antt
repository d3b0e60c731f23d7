use Rattle.ic_set.proofs.LookedUp.{Answered}
use Rattle.ic_set.proofs.bare.BareSet.active_joins.Given as goal

abbrev pub invariant-loop-place : goal.invariant-loop-place
invariant-loop-place g l = Answered l.self.set l.joins l.place l.pairs
