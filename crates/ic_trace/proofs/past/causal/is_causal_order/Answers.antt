use Rattle.std.proofs.Common.{ap}
use Rattle.ic_trace.specs.Pasts.{PastView}
use Rattle.ic_trace.proofs.past.causal.is_causal_order.Goals as goal

pub fire_in_order-requires-clause-nothing : goal.fire_in_order-requires-clause-nothing
fire_in_order-requires-clause-nothing c = ap (λ (v : PastView). v.events) c.in_ok-past.ensures

pub returns : goal.returns
returns c = rw (ap (λ (v : PastView). v.start) c.in_ok-past.ensures) at c.fire_in_order.ensures
