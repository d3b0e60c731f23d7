use Rattle.std.proofs.Common.{◌≡◌, ◌+◌, ◌≤◌, ◌<◌, ◌^◌, ◌++◌, map, take, length}
use Rattle.std.specs.Prelude.{All}
use Rattle.ic_roster.proofs.event_record.EventRecord.new.Given as goal

-- the slots of the children so far
abbrev pub invariant-loop-child : goal.invariant-loop-child
invariant-loop-child l = record {
  slots : l.slots.items ≡ map (λ a. a.slot) (take l.child-index l.child-items);
  room : length l.slots.items + length l.event.born.now + length l.event.causes.now ≤ l.slots.capacity + l.child-index;
}

-- those of all children, and of the causes so far
abbrev pub invariant-loop-cause : goal.invariant-loop-cause
invariant-loop-cause l = record {
  slots : l.slots.items ≡ map (λ a. a.slot) l.event.born.now ++ map (λ d. d.slot) (take l.cause-index l.cause-items);
  room : length l.slots.items + length l.event.causes.now ≤ l.slots.capacity + l.cause-index;
  small : All (λ n. n < 2 ^ 32) (map (λ d. d.line) (take l.cause-index l.cause-items));
}
