use Rattle.ic_undo.proofs.StayedBenches.{unchanged}
use Rattle.ic_undo.proofs.backwards.undo_back.Goals as goal

pub returns-in_default-clause-fault : goal.returns-in_default-clause-fault
returns-in_default-clause-fault g c = unchanged c.args.bench.now

pub returns-clause-undone : goal.returns-clause-undone
returns-clause-undone g c = λ order free named. (c.in_ok-undo_unnamed.ensures.undone order free named, c.in-Ok.ensures order free.there named)
