use Rattle.std.proofs.Common.{◌≡◌, ◌≤◌, take, vec_len, vec_capacity}
use Rattle.ic_names.specs.Queues.{leads_of}
use Rattle.ic_names.proofs.queue.LeadQueue.to_vec.Given as goal

-- the leads so far are in the list, with room for all others
abbrev pub invariant-loop-at : goal.invariant-loop-at
invariant-loop-at l = record {
  copied : l.leads.items ≡ take l.at (leads_of l.self);
  count : vec_len l.leads ≡ l.at;
  room : l.at-end ≤ vec_capacity l.leads;
}
