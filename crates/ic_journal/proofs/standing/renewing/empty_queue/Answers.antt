use Rattle.ic_journal.proofs.standing.renewing.empty_queue.Goals as goal

pub returns-clause-queue : goal.returns-clause-queue
returns-clause-queue g c = c.reserve.ensures.queue c.args.set.now.names (c.reserve_run.ensures.queue c.args.set.now.names (c.new-queue.ensures.queue c.args.set.now.names))
