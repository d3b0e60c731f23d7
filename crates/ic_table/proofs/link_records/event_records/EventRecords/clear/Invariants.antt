use Rattle.std.proofs.Common.{}
use Rattle.ic_table.proofs.ClearedEvents.{AreCleared}
use Rattle.ic_table.proofs.link_records.event_records.EventRecords.clear.Given as goal

abbrev pub invariant-loop-number : goal.invariant-loop-number
invariant-loop-number l = AreCleared l.number l.initial.self-inside.records.items l.self-inside.records.items
