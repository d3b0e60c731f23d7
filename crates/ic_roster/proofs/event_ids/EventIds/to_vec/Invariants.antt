use Rattle.std.proofs.Common.{◌≡◌, map, take}
use Rattle.ic_roster.specs.EventSlots.{id_in}
use Rattle.ic_roster.proofs.event_ids.EventIds.to_vec.Given as goal

-- the ids in the slots so far
abbrev pub invariant-loop-slot : goal.invariant-loop-slot
invariant-loop-slot l = l.ids.items ≡ map (id_in l.self-inside.records.now.slots) (take l.slot-index l.slot-items)
