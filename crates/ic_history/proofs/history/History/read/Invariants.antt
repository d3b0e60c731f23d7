use Rattle.std.proofs.Common.{◌≡◌, map, take}
use Rattle.ic_history.specs.Kept.{line_of}
use Rattle.ic_history.specs.Noted.{line_in}
use Rattle.ic_history.proofs.history.History.read.Given as goal

abbrev pub invariant-loop-line : goal.invariant-loop-line
invariant-loop-line l = l.lines.items ≡ map (line_in l.roster.names) (map (line_of l.self-inside.inactive.items) (take l.line-index l.line-items))
