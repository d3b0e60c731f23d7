use Rattle.ic_theory.proofs.Restored.{refused_same}
use Rattle.ic_theory.proofs.refusals.Goals as goal

pub returns : goal.returns
returns c = λ s st next call reply a f u. refused_same a f u
