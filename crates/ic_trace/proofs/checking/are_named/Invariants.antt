use Rattle.std.proofs.Common.{◌≡◌, map, take}
use Rattle.ic_trace.specs.Letters.{named}
use Rattle.ic_trace.specs.Readings.{letters_in}
use Rattle.ic_trace.proofs.checking.are_named.Given as goal

-- the letters so far have the names so far
abbrev pub invariant-loop-number : goal.invariant-loop-number
invariant-loop-number l = map named (letters_in l.known (take l.number l.steps)) ≡ take l.number l.letters
