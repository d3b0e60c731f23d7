use Rattle.std.proofs.Common.{◌≡◌, ◌++◌, take}
use Rattle.ic_answer.specs.Histories.{numbered_lines}
use Rattle.ic_answer.proofs.histories.push_lines.Given as goal

-- the lines before this one are there
abbrev pub invariant-loop-number : goal.invariant-loop-number
invariant-loop-number l = l.text.items ≡ l.fn.text.items ++ numbered_lines 0 (take l.number l.lines)
