use Rattle.std.proofs.Common.{◌≤◌, length}
use Rattle.ic_names.specs.Queues.{leads_of, IsQueue}
use Rattle.ic_set.specs.Queues.{HasLeads}
use Rattle.ic_journal.proofs.standing.queue.drop_stale.Given as goal

-- each lead is in the queue still
abbrev pub invariant-loop-name : goal.invariant-loop-name
invariant-loop-name g l = record {
  queue : IsQueue l.set.names l.queue;
  each : HasLeads l.set (leads_of l.queue);
  room : l.fn.queue.room ≤ l.queue.room;
}

-- the leads become fewer
abbrev pub decreases-loop-name : goal.decreases-loop-name
decreases-loop-name g l = length (leads_of l.queue)
