use Rattle.ic_trace.proofs.SameCauses.{same_cause, concurrent_by}
use Rattle.ic_trace.proofs.laws.causes_are_those_of_the_firing.Goals as goal

pub returns-clause-same : goal.returns-clause-same
returns-clause-same c = λ s es all e d ok h k i j q. same_cause s ok h k j q

pub returns-clause-concurrent : goal.returns-clause-concurrent
returns-clause-concurrent c = λ s es fs e f ok h k i j n. concurrent_by s ok h k i j n
