use Rattle.std.proofs.Common.{◌≤◌, Some, take}
use Rattle.ic_name.specs.Names.{Name}
use Rattle.ic_name.specs.Events.{Event}
use Rattle.ic_path.specs.Orders.{IsIn}
use Rattle.ic_names.specs.Queues.{leads_of, IsQueue}
use Rattle.ic_set.specs.declared.pairs.ActivePair.{ActivePair}
use Rattle.ic_set.specs.Pairs.{IsPairOf}
use Rattle.ic_set.specs.Queues.{IsQueued}
use Rattle.ic_journal.proofs.standing.queue.put_leads.Given as goal

-- the names of before are in the queue, and those of the leads so far
abbrev pub invariant-loop-pair : goal.invariant-loop-pair
invariant-loop-pair g l = record {
  queue : IsQueue l.set.names l.queue;
  stay : (n : Name) → IsQueued l.set.names (leads_of l.fn.queue) n → IsQueued l.set.names (leads_of l.queue) n;
  led : (e : Event) (p : ActivePair) → IsPairOf l.set.set e p → IsIn (Some p) (take l.pair-index l.pairs) → IsQueued l.set.names (leads_of l.queue) e.lead;
  room : l.fn.queue.room ≤ l.queue.room;
}
