use Rattle.std.proofs.Common.{◌≡◌, [], take}
use Rattle.ic_path.specs.Orders.{Alike}
use Rattle.ic_theory.specs.Firings.{IsFired, then_fired}
use Rattle.ic_trace.proofs.past.causal.fire_in_order.Given as goal

-- the events so far are a firing, and stand
abbrev pub invariant-loop-event : goal.invariant-loop-event
invariant-loop-event l = record {
  fired : IsFired l.fn.past.start (then_fired [] (take l.event-index l.events));
  start : l.past.start ≡ l.fn.past.start;
  standing : Alike l.past.events (then_fired [] (take l.event-index l.events));
}
