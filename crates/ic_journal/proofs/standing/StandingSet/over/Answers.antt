use Rattle.std.proofs.Common.{◌≤◌, length, arith, subst}
use Rattle.std.proofs.lemmas.List.{append-nil}
use Rattle.ic_path.specs.Orders.{IsIn}
use Rattle.ic_path.proofs.Alikes.{alike-in, alike_back}
use Rattle.ic_roster.specs.Rosters.{Member}
use Rattle.ic_path.proofs.InLists.{in-map}
use Rattle.ic_journal.proofs.standing.StandingSet.over.Goals as goal

pub queue_of-requires : goal.queue_of-requires
queue_of-requires g c =
    let opened = c.in_ok-bare.ensures.ids in
    λ p active.
    let there = alike-in (alike_back opened.alike) active.1.lead in
    let entered = rw append-nil at there in
    rw c.as_slice.ensures (subst (IsIn p.lead) opened.under (in-map (λ (m : Member). m.id) entered))

pub invariant_of-result : goal.invariant_of-result
invariant_of-result g c =
    let reserved = c.in_ok-queue.ensures.room in
    let left = c.drop_stale-front.ensures.room in
    let enough : length c.in_ok-bare.bare.names ≤ c.drop_stale-front.new.queue.room = omega (arith, reserved, left) in
    rw c.in_ok-new.ensures.ok (record { queue = c.drop_stale-front.ensures.queue; each = c.drop_stale-front.ensures.each; front = c.drop_stale-front.ensures.front; room = enough })
