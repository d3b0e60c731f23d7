use Rattle.std.proofs.Common.{◌≡◌, map, take}
use Rattle.ic_undo.specs.Marks.{marked_event, AreMarked}
use Rattle.ic_undo.proofs.marked_events.MarkedEvents.of.Given as goal

-- the first events are kept
abbrev pub invariant-loop-place : goal.invariant-loop-place
invariant-loop-place l = record {
  marked : AreMarked l.leads l.digits.items l.kept.items l.places;
  seen : map (marked_event l.leads l.digits.items) l.kept.items ≡ take l.place l.events;
}
