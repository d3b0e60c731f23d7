use Rattle.std.proofs.Common.{inl, inr, refl}
use Rattle.ic_net.proofs.children.blank_partners.Goals as goal

pub returns-in-Eps : goal.returns-in-Eps
returns-in-Eps c = rw c.in-Eps.is refl

pub returns-in-Gamma : goal.returns-in-Gamma
returns-in-Gamma c = elim c.in-Gamma.is [ inl e ↦ rw e refl | inr e ↦ rw e refl ]
