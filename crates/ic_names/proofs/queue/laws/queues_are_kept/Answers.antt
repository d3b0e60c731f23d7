use Rattle.ic_names.specs.Queues.{leads_of}
use Rattle.ic_names.proofs.Growing.{entered_keeps, grown_keeps}
use Rattle.ic_names.proofs.Heaps.{one_least}
use Rattle.ic_names.proofs.Queued.{kept_queue, queue_named}
use Rattle.ic_names.proofs.queue.laws.queues_are_kept.Goals as goal

pub returns : goal.returns
returns c = record {
  entered = λ old new n q enters. kept_queue old new (λ m k. entered_keeps old new n m k enters) q;
  grown = λ old new n q grows. kept_queue old new (λ m k. grown_keeps old new n m k grows) q;
  one_least = λ ns q m n table queue. one_least ns (leads_of q) m n table (queue_named queue);
}
