use Rattle.std.proofs.Common.{◌≤◌, length, take}
use Rattle.ic_name.specs.Events.{Event}
use Rattle.ic_names.specs.Queues.{leads_of, IsQueue}
use Rattle.ic_set.specs.declared.pairs.ActivePair.{ActivePair}
use Rattle.ic_set.specs.Pairs.{IsPairOf}
use Rattle.ic_set.specs.Queues.{IsQueued}
use Rattle.ic_journal.specs.Fronts.{LeadNone}
use Rattle.ic_journal.proofs.standing.renewing.without_fired.Given as goal

-- each active pair whose lead is among the leads so far has it in the queue, in which no lead of a standing event is
abbrev pub invariant-loop-at : goal.invariant-loop-at
invariant-loop-at g l = record {
  queue : IsQueue l.set.names l.fresh;
  led : (e : Event) (p : ActivePair) → IsPairOf l.set.set e p → IsQueued l.set.names (take l.at (leads_of l.queue)) e.lead → IsQueued l.set.names (leads_of l.fresh) e.lead;
  unled : LeadNone l.set (leads_of l.fresh);
  room : length l.set.names ≤ l.fresh.room;
}
