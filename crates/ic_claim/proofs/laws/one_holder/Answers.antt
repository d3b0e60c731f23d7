use Rattle.ic_claim.proofs.Consequences.{same_holder}
use Rattle.ic_claim.proofs.laws.one_holder.Goals as goal

pub returns : goal.returns
returns c = same_holder
