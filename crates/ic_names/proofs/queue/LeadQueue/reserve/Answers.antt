use Rattle.ic_names.proofs.Queued.{same_queue}
use Rattle.ic_names.proofs.queue.LeadQueue.reserve.Goals as goal

pub returns-clause-queue : goal.returns-clause-queue
returns-clause-queue c ns = same_queue c.make_room.ensures.run c.make_room.ensures.heap
