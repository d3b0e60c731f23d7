use Rattle.std.proofs.Common.{take}
use Rattle.ic_set.specs.Admission.{IsRankOver}
use Rattle.ic_set.proofs.bare.BareSet.rank_over.Given as goal

abbrev pub invariant-loop-cause : goal.invariant-loop-cause
invariant-loop-cause g l = IsRankOver l.self.set.events (take l.cause-index l.causes) l.rank
