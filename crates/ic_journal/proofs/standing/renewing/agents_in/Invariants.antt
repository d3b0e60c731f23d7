use Rattle.std.proofs.Common.{◌≤◌, take, vec_len, vec_capacity}
use Rattle.ic_names.specs.Queues.{leads_of}
use Rattle.ic_journal.proofs.QueuedAgents.{HasNamed}
use Rattle.ic_journal.proofs.standing.renewing.agents_in.Given as goal

-- the agents of the names so far are in the list, and there is room for one of each other name
abbrev pub invariant-loop-at : goal.invariant-loop-at
invariant-loop-at g l = record {
  named : HasNamed l.roster.names l.roster.agents (take l.at (leads_of l.queue)) l.leads.items;
  few : vec_len l.leads ≤ l.at;
  room : l.at-end ≤ vec_capacity l.leads;
}
