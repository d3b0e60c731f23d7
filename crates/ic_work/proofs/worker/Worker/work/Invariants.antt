use Rattle.ic_work.specs.Workers.{WorksOn}
use Rattle.ic_work.proofs.worker.Worker.work.Given as goal

abbrev pub invariant-loop : goal.invariant-loop
invariant-loop g l = WorksOn 0 l.initial.self.seat l.initial.self.pass l.unused.count l.self.seat l.self.pass
