use Rattle.ic_theory.proofs.Restored.{undone_at_once, restored_standing, restored_net, restored_ranks}
use Rattle.ic_theory.proofs.undone_at_once.Goals as goal

pub returns-clause-accepted : goal.returns-clause-accepted
returns-clause-accepted c = λ s lines st mid e ok f. undone_at_once s ok f.history f.fired

pub returns-clause-standing : goal.returns-clause-standing
returns-clause-standing c = λ s lines st next e ok u. restored_standing s ok u.fired.history u.fired.fired u.undone

pub returns-clause-net : goal.returns-clause-net
returns-clause-net c = λ s lines st next e ok u. restored_net s ok u.fired.history u.fired.fired u.undone

pub returns-clause-ranks : goal.returns-clause-ranks
returns-clause-ranks c = λ s lines st next e rank ok u r. restored_ranks s ok rank u.fired.history u.fired.fired u.undone r
