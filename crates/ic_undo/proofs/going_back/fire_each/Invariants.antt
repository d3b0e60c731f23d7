use Rattle.std.proofs.Common.{◌≡◌, ◌+◌, ◌≤◌, drop, length, take}
use Rattle.ic_name.specs.declared.limits.TheConstants.{MAX_LINES}
use Rattle.ic_set.specs.Views.{standing}
use Rattle.ic_journal.specs.Views.{set_of}
use Rattle.ic_undo.specs.GoingBack.{AreFirable, AreFired, events_at}
use Rattle.ic_undo.proofs.going_back.fire_each.Given as goal

-- those so far are fired, and the rest can be
abbrev pub invariant-loop-place : goal.invariant-loop-place
invariant-loop-place g l = record {
  did : AreFired l.fn.bench (events_at l.mark.events (take l.place-index l.places)) l.bench;
  firable : AreFirable l.bench.start (standing (set_of l.bench)) (events_at l.mark.events (drop l.place-index l.places));
  fit : length l.bench.lines + length (drop l.place-index l.places) ≤ MAX_LINES;
  few : l.fired + length (drop l.place-index l.places) ≤ MAX_LINES;
  count : l.fired ≡ l.place-index;
}
