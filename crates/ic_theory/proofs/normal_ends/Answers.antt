use Rattle.ic_theory.proofs.NormalEnds.{normal_part, normal_one}
use Rattle.ic_theory.proofs.normal_ends.Goals as goal

pub returns-clause-part : goal.returns-clause-part
returns-clause-part c = λ s es fs ok h k n. normal_part s ok h k n

pub returns-clause-one : goal.returns-clause-one
returns-clause-one c = λ s es fs ok h k n m. normal_one s ok h k n m
