use Rattle.std.proofs.Common.{◌≡◌, ◌-◌}
use Rattle.ic_work.specs.Workers.{DrawsMore}
use Rattle.ic_work.specs.declared.limits.TheConstants.{MOST}
use Rattle.ic_work.proofs.worker.Worker.draw.Given as goal

abbrev pub invariant-loop-unused : goal.invariant-loop-unused
invariant-loop-unused g l = DrawsMore l.initial.self.seat l.initial.unused.count l.self.seat l.unused.count × (l.self.pass ≡ l.initial.self.pass)

abbrev pub decreases-loop-unused : goal.decreases-loop-unused
decreases-loop-unused g l = MOST - l.unused.count
