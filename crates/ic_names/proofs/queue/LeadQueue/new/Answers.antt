use Rattle.ic_names.proofs.Queued.{empty_queue}
use Rattle.ic_names.proofs.queue.LeadQueue.new.Goals as goal

pub returns-clause-queue : goal.returns-clause-queue
returns-clause-queue c ns = empty_queue ns _ c.new.ensures c.new-2.ensures.items
