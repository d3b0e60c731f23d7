use Rattle.std.proofs.Common.{◌≡◌, map, take}
use Rattle.ic_set.proofs.orders.ids_of.Given as goal

-- the ids of the events so far
abbrev pub invariant-loop-event : goal.invariant-loop-event
invariant-loop-event l = l.ids.items ≡ map (λ p. p.id) (take l.event-index l.placed)
