use Rattle.std.proofs.Common.{◌≡◌, take}
use Rattle.std.specs.List.{flat_map}
use Rattle.ic_trace.specs.Accepted.{letter_of}
use Rattle.ic_trace.proofs.accepted.letters_of.Given as goal

-- the letters so far are those of the lines so far
abbrev pub invariant-loop-line : goal.invariant-loop-line
invariant-loop-line l = l.letters.items ≡ flat_map (letter_of l.lines) (take l.line-index l.lines)
