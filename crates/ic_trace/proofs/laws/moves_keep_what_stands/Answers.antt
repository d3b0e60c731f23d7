use Rattle.ic_trace.proofs.LegalMoves.{turns_legal}
use Rattle.ic_trace.proofs.Equivalences.{led_leave}
use Rattle.ic_trace.proofs.laws.moves_keep_what_stands.Goals as goal

pub returns-clause-legal : goal.returns-clause-legal
returns-clause-legal c = λ s xs ys ms ok w. let l = turns_legal s ok w.3 w.2 in (l.0, (w.1, l.1, w.5))

pub returns-clause-standing : goal.returns-clause-standing
returns-clause-standing c = λ s xs ys ms es fs ok w x y. led_leave s ok w x y
