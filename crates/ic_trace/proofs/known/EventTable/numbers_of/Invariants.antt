use Rattle.std.proofs.Common.{take}
use Rattle.ic_trace.specs.Known.{AreNumbersOf}
use Rattle.ic_trace.proofs.known.EventTable.numbers_of.Given as goal

-- the numbers so far are those of the names so far
abbrev pub invariant-loop-name : goal.invariant-loop-name
invariant-loop-name l = AreNumbersOf l.self.known.items (take l.name-index l.names) l.numbers.items
