use Rattle.std.proofs.Common.{◌∷◌, ◌++◌}
use Rattle.ic_theory.proofs.AnyOrder.{net-alike}
use Rattle.ic_theory.proofs.Exchanging.{ordered}
use Rattle.ic_theory.proofs.Neighbours.{swapped_at, fired_at, fired_along}
use Rattle.ic_theory.proofs.Sound.{fired_sound}
use Rattle.ic_theory.proofs.exchange.Goals as goal

pub returns-clause-fired : goal.returns-clause-fired
returns-clause-fired c = λ s later es e f ok h n. fired_at s ok later e f es h n

pub returns-clause-net : goal.returns-clause-net
returns-clause-net c = λ s later es e f ok h. net-alike s ok (fired_sound s ok (later ++ f ∷ e ∷ es) h).0 (swapped_at later e f es)

pub returns-clause-along : goal.returns-clause-along
returns-clause-along c = λ s es gs ok h x. let r = fired_along s ok x h in (r.0, net-alike s ok (fired_sound s ok es h).0 r.1, r.1)

pub returns-clause-canonical : goal.returns-clause-canonical
returns-clause-canonical c = λ s es rank ok h r. let o = ordered s ok rank es h r.above in (o.order, o.exchanges, o.firing, o.canonical, o.alike)
