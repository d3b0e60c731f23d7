use Rattle.ic_trace.proofs.Equivalences.{equivalent_leave, left_equivalent}
use Rattle.ic_trace.proofs.laws.consistency.Goals as goal

pub returns : goal.returns
returns c = record { equal_sets = λ s xs ys es fs ok x y. (λ p. equivalent_leave s ok x y p, λ a. left_equivalent s ok x y a) }
