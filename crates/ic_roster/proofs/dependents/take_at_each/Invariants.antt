use Rattle.std.proofs.Common.{take}
use Rattle.ic_roster.specs.RecordChanges.{Changes, Takes}
use Rattle.ic_roster.proofs.dependents.take_at_each.Given as goal

abbrev pub invariant-loop-cause : goal.invariant-loop-cause
invariant-loop-cause l = Changes (Takes l.event) (take l.cause-index l.causes) l.initial.records.slots l.records.slots
