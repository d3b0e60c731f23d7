use Rattle.std.proofs.Common.{◌≡◌, take}
use Rattle.ic_theory.specs.Sets.{consumed_times}
use Rattle.ic_trace.specs.DeepEvents.{deep_events}
use Rattle.ic_trace.proofs.past.deep.consume.Given as goal

-- none of the events so far consumed the agent
abbrev pub invariant-loop-standing : goal.invariant-loop-standing
invariant-loop-standing l = consumed_times l.name (deep_events (take l.standing-index l.deep)) ≡ 0
