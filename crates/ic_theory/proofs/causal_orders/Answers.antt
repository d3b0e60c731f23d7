use Rattle.std.proofs.Common.{◌∷◌, ◌++◌}
use Rattle.ic_theory.proofs.CausalOrders.{same_end, exchanged_at, along, canonical_order}
use Rattle.ic_theory.proofs.Sound.{sound_fired}
use Rattle.ic_theory.proofs.causal_orders.Goals as goal

pub returns-clause-exchanged : goal.returns-clause-exchanged
returns-clause-exchanged c = λ s front back e f ok o n.
    let x = exchanged_at s ok front back e f o n in
    (x.0, same_end s ok (front ++ e ∷ f ∷ back) (front ++ f ∷ e ∷ back) o (sound_fired s ok _ x.0.0 x.0.1) x.1)

pub returns-clause-along : goal.returns-clause-along
returns-clause-along c = λ s list order ok o r. along s ok o r

pub returns-clause-canonical : goal.returns-clause-canonical
returns-clause-canonical c = λ s list rank ok o r. let q = canonical_order s ok rank list o r in (q.order, q.reorders, q.causal, q.sorted, q.alike, q.ends)
