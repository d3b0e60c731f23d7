use Rattle.std.proofs.Common.{ap}
use Rattle.ic_trace.specs.Pasts.{PastView}
use Rattle.ic_trace.proofs.reading.read.Goals as goal

pub read_over-requires-clause-nothing : goal.read_over-requires-clause-nothing
read_over-requires-clause-nothing c = ap (λ (v : PastView). v.events) c.in_ok-past.ensures

pub returns : goal.returns
returns c = rw (ap (λ (v : PastView). v.start) c.in_ok-past.ensures) at c.read_over.ensures
