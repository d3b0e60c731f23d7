use Rattle.std.proofs.Common.{◌≡◌, ◌≤◌, length, arith, ap}
use Rattle.ic_names.specs.Queues.{leads_of}
use Rattle.ic_set.specs.Cleared.{AreAll, Clears}
use Rattle.ic_set.specs.Sets.{IsStandingSet}
use Rattle.ic_journal.specs.Fronts.{KeepsQueue}
use Rattle.ic_journal.proofs.PairsCleared.{cleared_each}
use Rattle.ic_journal.proofs.standing.StandingSet.clear.Goals as goal

pub put_start_leads-requires-clause-standing : goal.put_start_leads-requires-clause-standing
put_start_leads-requires-clause-standing g c = rw (c.deref-2.ensures, c.self.view_is) c.requires.all.stand

pub drop_stale-self-inside-requires-clause-each : goal.drop_stale-self-inside-requires-clause-each
drop_stale-self-inside-requires-clause-each g c =
    let before : IsStandingSet c.self.inside.bare.value.set = rw c.deref.ensures at c.lawful.ensures.set in
    let cleared : Clears c.self.inside.bare.value.set c.clear.new.self.set = rw c.deref_mut.ensures.value at c.clear.ensures.cleared in
    let names : c.clear.new.self.names ≡ c.self.inside.bare.value.names = rw c.deref_mut.ensures.value at c.clear.ensures.names in
    let all : AreAll c.self.inside.bare.value.set c.args.ids.now = rw c.self.view_is c.requires.all in
    let led = rw c.deref-2.ensures at c.put_start_leads.ensures.led in
    rw c.deref-4.ensures (cleared_each c.self.inside.bare.value c.clear.new.self before names cleared (leads_of c.self.inside.queue) (leads_of c.put_start_leads.new.queue)
    c.self.invariant.each (rw c.deref-2.ensures at c.put_start_leads.ensures.stay) (λ x there bare. led x there (all.each x there) bare))

pub invariant_of-self : goal.invariant_of-self
invariant_of-self g c =
    let names : c.clear.new.self.names ≡ c.self.inside.bare.value.names = rw c.deref_mut.ensures.value at c.clear.ensures.names in
    let count = ap length names in
    let room = c.self.invariant.room in
    let all = c.put_start_leads.ensures.room in
    let left = c.drop_stale-self-inside.ensures.room in
    let enough : length c.clear.new.self.names ≤ c.drop_stale-self-inside.new.queue.room = omega (arith, count, room, all, left) in
    let kept : KeepsQueue c.deref-4.result.now c.drop_stale-self-inside.new.queue c.drop_stale-self-inside.result = record { queue = c.drop_stale-self-inside.ensures.queue; each = c.drop_stale-self-inside.ensures.each; front = c.drop_stale-self-inside.ensures.front; room = rw c.deref-4.ensures enough } in
    rw c.deref-4.ensures at kept
