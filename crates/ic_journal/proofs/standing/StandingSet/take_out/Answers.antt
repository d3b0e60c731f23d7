use Rattle.std.proofs.Common.{◌≡◌, ◌≤◌, length, inl, inr, refl, sym, arith, ap}
use Rattle.ic_names.specs.Queues.{leads_of}
use Rattle.ic_set.specs.Queues.{HasLeads}
use Rattle.ic_set.specs.Removal.{Stands}
use Rattle.ic_set.specs.Sets.{IsStandingSet}
use Rattle.ic_set.proofs.QueuedLeads.{still_queued}
use Rattle.ic_journal.specs.Fronts.{KeepsQueue}
use Rattle.ic_journal.proofs.PairsLeft.{left_each}
use Rattle.ic_journal.proofs.standing.StandingSet.take_out.Goals as goal

pub take_out-lead-requires-clause-free : goal.take_out-lead-requires-clause-free
take_out-lead-requires-clause-free g c = rw (c.deref_mut.ensures.value, c.self.view_is) c.requires.free

pub put-requires-clause-inside : goal.put-requires-clause-inside
put-requires-clause-inside g c =
    let stands : Stands c.deref_mut.result.now.set c.args.id = rw (c.deref_mut.ensures.value, c.self.view_is) c.requires.standing in
    rw (c.names.ensures, c.roster.ensures.names, c.deref-3.ensures) ((c.take_out-lead.ensures.lead stands.0 stands.1 stands.2).within)

pub put-requires-clause-queue : goal.put-requires-clause-queue
put-requires-clause-queue g c = rw (c.names.ensures, c.roster.ensures.names, c.deref-3.ensures, c.take_out-lead.ensures.names, c.deref_mut.ensures.value) c.self.invariant.queue

pub put-requires-clause-room : goal.put-requires-clause-room
put-requires-clause-room g c = rw (c.names.ensures, c.roster.ensures.names, c.deref-3.ensures, c.take_out-lead.ensures.names, c.deref_mut.ensures.value) c.self.invariant.room

pub drop_stale-self-inside-requires-clause-queue : goal.drop_stale-self-inside-requires-clause-queue
drop_stale-self-inside-requires-clause-queue g c =
    let queue = c.put.ensures.queue in
    rw c.deref-4.ensures (rw (c.names.ensures, c.roster.ensures.names, c.deref-3.ensures) at queue)

pub drop_stale-self-inside-requires-clause-each : goal.drop_stale-self-inside-requires-clause-each
drop_stale-self-inside-requires-clause-each g c =
    let stands : Stands c.deref_mut.result.now.set c.args.id = rw (c.deref_mut.ensures.value, c.self.view_is) c.requires.standing in
    let names = c.take_out-lead.new.self.names in
    let place = c.take_out-lead.result.place in
    let lead = c.take_out-lead.ensures.lead stands.0 stands.1 stands.2 in
    let each : HasLeads c.deref_mut.result.now (leads_of c.self.inside.queue) = rw c.deref_mut.ensures.value c.self.invariant.each in
    let before : IsStandingSet c.deref_mut.result.now.set = rw (c.deref_mut.ensures.value, ← c.deref.ensures) c.lawful.ensures.set in
    let after : IsStandingSet c.take_out-lead.new.self.set = rw (← c.deref-2.ensures) c.lawful-2.ensures.set in
    rw c.deref-4.ensures (left_each c.deref_mut.result.now c.take_out-lead.new.self before after c.args.id c.take_out-lead.ensures.out stands.0 stands.1 stands.2
    (leads_of c.self.inside.queue) (leads_of c.put.new.self) place c.take_out-lead.ensures.names lead each
    (still_queued names _ _ (λ n i. (c.put.ensures.entered n).1 (inr i)))
    (λ f q h same. (place, record { within = lead.within; named = sym same }, (c.put.ensures.entered place).1 (inl refl))))

pub invariant_of-self : goal.invariant_of-self
invariant_of-self g c =
    let room = c.self.invariant.room in
    let more = c.put.ensures.room in
    let left = c.drop_stale-self-inside.ensures.room in
    let names : length c.take_out-lead.new.self.names ≡ length c.self.inside.bare.value.names = rw c.deref_mut.ensures.value at (ap length c.take_out-lead.ensures.names) in
    let enough : length c.take_out-lead.new.self.names ≤ c.drop_stale-self-inside.new.queue.room = omega (arith, room, more, left, names) in
    let kept : KeepsQueue c.deref-4.result.now c.drop_stale-self-inside.new.queue c.drop_stale-self-inside.result = record { queue = c.drop_stale-self-inside.ensures.queue; each = c.drop_stale-self-inside.ensures.each; front = c.drop_stale-self-inside.ensures.front; room = rw c.deref-4.ensures enough } in
    rw c.deref-4.ensures at kept
