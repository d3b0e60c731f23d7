use Rattle.ic_cause.proofs.SameEnds.{degree_is, rings_are}
use Rattle.ic_cause.proofs.shown.degrees.Goals as goal

pub returns-clause-degree : goal.returns-clause-degree
returns-clause-degree c = λ n s es ls p h k. degree_is n s es ls h p k

pub returns-clause-rings : goal.returns-clause-rings
returns-clause-rings c = λ n s es ls ok sound h. rings_are n s es ls h ok sound
