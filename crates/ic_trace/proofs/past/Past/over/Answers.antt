use Rattle.ic_trace.proofs.EmptyPasts.{keeps_none}
use Rattle.ic_trace.proofs.Flags.{none_taken}
use Rattle.ic_trace.proofs.past.Past.over.Goals as goal

pub invariant_of-result : goal.invariant_of-result
invariant_of-result c = (
  keeps_none c.in_ok-set.set.set c.new.result.items c.new.ensures.items c.lawful.ensures.set c.in_ok-set.ensures.events,
  none_taken c.in_ok-set.set.set.events c.new-2.result.items c.in_ok-set.ensures.events c.new-2.ensures.items,
)
