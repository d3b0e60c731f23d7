use Rattle.ic_theory.proofs.PlainSteps.{plain_step_is}
use Rattle.ic_theory.proofs.Runs.{active_meets, meets_active}
use Rattle.ic_theory.proofs.steps_agree.Goals as goal

pub returns-clause-defined : goal.returns-clause-defined
returns-clause-defined c = λ s es e ok f. (λ a. active_meets s ok e es f a, λ m. meets_active s ok e es f m)

pub returns-clause-same : goal.returns-clause-same
returns-clause-same c = λ s es e ok f a. plain_step_is s ok e es f a
