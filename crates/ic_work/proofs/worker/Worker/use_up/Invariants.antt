use Rattle.std.proofs.Common.{◌≡◌, ◌+◌}
use Rattle.ic_work.proofs.worker.Worker.use_up.Given as goal

abbrev pub invariant-loop-made : goal.invariant-loop-made
invariant-loop-made g l = l.unused.count + l._made ≡ l.initial.unused.count
