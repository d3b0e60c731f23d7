use Rattle.std.proofs.Common.{take}
use Rattle.ic_trace.specs.Readings.{IsReadUpTo}
use Rattle.ic_trace.proofs.reading.read_over.Given as goal

-- the letters so far are read
abbrev pub invariant-loop-number : goal.invariant-loop-number
invariant-loop-number l = IsReadUpTo l.fn.past.start (take l.number l.letters) l.past l.table l.steps.items
