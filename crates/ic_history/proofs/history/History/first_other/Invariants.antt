use Rattle.std.proofs.Common.{◌≡◌, take, map}
use Rattle.ic_history.specs.Noted.{line_in}
use Rattle.ic_history.proofs.history.History.first_other.Given as goal

abbrev pub invariant-loop-number : goal.invariant-loop-number
invariant-loop-number l = take l.number (map (line_in l.names) l.self.lines) ≡ take l.number l.lines
