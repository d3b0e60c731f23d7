use Rattle.ic_theory.proofs.Machines.{history_kept, history_length}
use Rattle.ic_theory.proofs.Replies.{one_line, one_answer}
use Rattle.ic_theory.proofs.machine.Goals as goal

pub returns-clause-sound : goal.returns-clause-sound
returns-clause-sound c = λ s lines st ok h. (history_kept s ok h).sound

pub returns-clause-count : goal.returns-clause-count
returns-clause-count c = λ s lines st h. history_length h

pub returns-clause-below : goal.returns-clause-below
returns-clause-below c = λ s lines st x ok h i. (history_kept s ok h).below x i

pub returns-clause-own : goal.returns-clause-own
returns-clause-own c = λ s lines st x y ok h i j e. one_line (history_kept s ok h) i j e

pub returns-clause-reply : goal.returns-clause-reply
returns-clause-reply c = λ s lines st a a' call r r' ok h x y. (one_answer call (history_kept s ok h) x y).reply

pub returns-clause-standing : goal.returns-clause-standing
returns-clause-standing c = λ s lines st a a' call r r' ok h x y. (one_answer call (history_kept s ok h) x y).standing
