use Rattle.ic_theory.proofs.LastUndone.{something_undone}
use Rattle.ic_theory.proofs.something_undone.Goals as goal

pub returns : goal.returns
returns c = λ s lines st ok h n. something_undone s ok h n
