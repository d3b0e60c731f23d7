use Rattle.std.proofs.Common.{take}
use Rattle.ic_path.specs.Orders.{IsIn}
use Rattle.ic_trace.specs.declared.past.deep.DeepEvent.{DeepEvent}
use Rattle.ic_trace.proofs.past.deep.rest_on.Given as goal

-- none of the events so far has the cause
abbrev pub invariant-loop-standing : goal.invariant-loop-standing
invariant-loop-standing l = (d : DeepEvent) → IsIn d (take l.standing-index l.deep) → IsIn l.cause d.causes.items → ⊥
