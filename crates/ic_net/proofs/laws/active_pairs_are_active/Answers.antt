use Rattle.ic_net.proofs.ActivePairs.{pairs_active, leads_in_order, pairs_meet}
use Rattle.ic_net.proofs.laws.active_pairs_are_active.Goals as goal

pub returns-clause-pairs : goal.returns-clause-pairs
returns-clause-pairs c = pairs_active

pub returns-clause-in_order : goal.returns-clause-in_order
returns-clause-in_order c = λ l h. leads_in_order l.agents h.in_order

pub returns-clause-steps : goal.returns-clause-steps
returns-clause-steps c = pairs_meet
