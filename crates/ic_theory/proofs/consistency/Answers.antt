use Rattle.ic_theory.proofs.Kept.{one_standing}
use Rattle.ic_theory.proofs.Normal.{consistent}
use Rattle.ic_theory.proofs.consistency.Goals as goal

pub returns : goal.returns
returns c = record { equal_sets = λ s fs gs ls ms ok r q. (λ p. one_standing s ok r q p, λ a. consistent s ok r q a) }
