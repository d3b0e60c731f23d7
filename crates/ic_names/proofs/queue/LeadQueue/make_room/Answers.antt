use Rattle.std.proofs.Common.{◌≤◌, ◌++◌, vec_len, vec_capacity, arith}
use Rattle.ic_names.proofs.Flags.{resized_flagged}
use Rattle.ic_names.proofs.queue.LeadQueue.make_room.Goals as goal

pub invariant_of-self-2 : goal.invariant_of-self-2
invariant_of-self-2 c =
    let before = c.self.invariant in
    let queued = c.self.inside.queued in
    let heap = c.reserve.new.self in
    let more : vec_len queued ≤ vec_capacity heap = omega (arith, queued.ok.0, before.heap_room, c.reserve.ensures.capacity) in
    record {
      flagged = rw (c.grow_to.ensures.same, c.reserve.ensures.items) (resized_flagged _ (c.self.inside.run.leads ++ c.self.inside.heap.items) queued.items c.resize.new.self.items c.capacity-room.result _ before.flagged c.resize.ensures.items queued.ok.0 (omega (arith, more, c.capacity-room.ensures)));
      run_first = rw (c.grow_to.ensures.same, c.reserve.ensures.items) before.run_first;
      heap_room = grind (arith, c.resize.ensures.len, c.capacity-room.ensures, c.resize.new.self.ok.0, more);
      run_room = λ h. omega (arith, c.clamp.ensures, c.in_ok-grow_to.ensures.reserved);
    }
