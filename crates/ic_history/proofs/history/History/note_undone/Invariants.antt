use Rattle.std.proofs.Common.{◌≡◌, ◌+◌, ◌≤◌, ◌++◌, length, map, reverse, drop}
use Rattle.ic_name.specs.declared.limits.TheConstants.{MAX_LINES}
use Rattle.ic_history.specs.Noted.{Undone}
use Rattle.ic_history.proofs.history.History.note_undone.Given as goal

-- the lines of the ids behind the place are there
abbrev pub invariant-loop-place : goal.invariant-loop-place
invariant-loop-place l = record {
  lines : l.self.lines ≡ l.fn.self.lines ++ map (λ d. Undone d.line) (reverse (drop l.place l.ids));
  room : l.fn.self.room + l.place ≡ l.self.room + length l.ids;
  few : length l.self.lines + l.self.room ≤ MAX_LINES;
}
