use Rattle.std.proofs.Common.{sym, subst}
use Rattle.ic_names.specs.Queues.{IsQueue}
use Rattle.ic_test_roster.proofs.names.queue.Waiting.enter.Goals.{in-Ok, in-Err}
use Rattle.ic_test_roster.proofs.names.queue.Waiting.enter.Goals as goal

pub invariant_of-self : goal.invariant_of-self
invariant_of-self c =
    let queue = c.self.inside.queue in
    elim c.match-enter.branch [
      | in-Ok w ↦ c.queues_are_kept.ensures.grown c.self.inside.names c.enter.new.self c.args.name.now queue (rw w.in-Ok.is at c.enter.ensures.grown) c.self.invariant
      | in-Err w ↦ subst (λ ns. IsQueue ns queue) (sym (rw w.in-Err.is at c.enter.ensures.unchanged)) c.self.invariant
    ]
