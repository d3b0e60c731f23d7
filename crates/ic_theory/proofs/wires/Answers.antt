use Rattle.ic_path.specs.FarEnds.{far}
use Rattle.ic_theory.specs.Starts.{net_shape}
use Rattle.ic_theory.specs.Sets.{links}
use Rattle.ic_theory.proofs.Loose.{partner_is, partners_back, partner_wire, wire_partner}
use Rattle.ic_theory.proofs.wires.Goals as goal

pub returns-clause-loose : goal.returns-clause-loose
returns-clause-loose c = λ s es p ok f l. (far net_shape (links s es) p, partner_is s ok es f p l)

pub returns-clause-back : goal.returns-clause-back
returns-clause-back c = λ s es p q ok f h. partners_back s ok es f p q h

pub returns-clause-ends : goal.returns-clause-ends
returns-clause-ends c = λ s es p q ok f. (λ h. partner_wire s ok es f p q h, λ w. wire_partner s ok es f p q w)
