use Rattle.std.proofs.Common.{◌≡◌, ◌≤◌, [], drop}
use Rattle.ic_name.specs.Names.{Name}
use Rattle.ic_path.specs.Orders.{IsIn}
use Rattle.ic_names.specs.Queues.{leads_of, IsQueue}
use Rattle.ic_roster.specs.Rosters.{Stander}
use Rattle.ic_set.specs.Queues.{IsQueued}
use Rattle.ic_journal.proofs.standing.queue.put_start_leads.Given as goal

-- the names of before are in the queue, and so are the leads without digits of the events from the place on
abbrev pub invariant-loop-place : goal.invariant-loop-place
invariant-loop-place g l = record {
  queue : IsQueue l.set.names l.queue;
  stay : (n : Name) → IsQueued l.set.names (leads_of l.fn.queue) n → IsQueued l.set.names (leads_of l.queue) n;
  led : (x : Stander) → IsIn x l.set.set.events → IsIn x.id (drop l.place l.events) → x.event.lead.digits ≡ [] → IsQueued l.set.names (leads_of l.queue) x.event.lead;
  room : l.fn.queue.room ≤ l.queue.room;
}
