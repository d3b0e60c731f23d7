use Rattle.ic_theory.proofs.Ranks.{sound_union}
use Rattle.ic_cause.proofs.OneFuture.{same_causes, one_event}
use Rattle.ic_cause.proofs.laws.one_future.Goals as goal

pub returns-clause-union : goal.returns-clause-union
returns-clause-union c = λ s es fs ok h k. let u = sound_union s ok es fs h k in (u.0, u.1, (u.2, u.3, u.4))

pub returns-clause-causes : goal.returns-clause-causes
returns-clause-causes c = λ s es fs e d ok h k i j. same_causes s ok h k i j

pub returns-clause-partner : goal.returns-clause-partner
returns-clause-partner c = λ s es fs e f n ok h k i j m m'. one_event s ok h k i j m m'
