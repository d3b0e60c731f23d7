use Rattle.ic_journal.proofs.FiredInTurn.{HasFired}
use Rattle.ic_journal.proofs.reducing.least.fire_least.Given as goal

abbrev pub invariant-loop-fired : goal.invariant-loop-fired
invariant-loop-fired g l = HasFired l.fn.bench l.fired l.bench
