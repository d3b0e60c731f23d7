use Rattle.std.proofs.Common.{inr, refl}
use Rattle.ic_undo.proofs.turns.fire_ready.Goals as goal

pub add_pairs-requires : goal.add_pairs-requires
add_pairs-requires g c = λ p i. ((c.in-Ok.ensures c.requires.active.0 c.requires.active.1).1.only p i).0

pub returns-in-Err-clause-hindered : goal.returns-in-Err-clause-hindered
returns-in-Err-clause-hindered g c = λ e h. inr (c.in-Ok.fired.id, (c.in-Ok.ensures e h).0, c.push_reserved.ensures.items)

pub returns-in-Err-Deep-clause-hindered : goal.returns-in-Err-Deep-clause-hindered
returns-in-Err-Deep-clause-hindered g c = λ e h. ((rw c.in-Err-Deep.field-0-is at c.in-Err-Deep.ensures) e h, refl)

pub returns-in-Err-Full-clause-hindered : goal.returns-in-Err-Full-clause-hindered
returns-in-Err-Full-clause-hindered g c = λ e h. ((rw c.in-Err-Full.field-0-is at c.in-Err-Full.ensures) e h, refl)
