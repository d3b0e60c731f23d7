use Rattle.std.proofs.Common.{◌≡◌, ℕ, true, take}
use Rattle.ic_roster.specs.Records.{has}
use Rattle.ic_roster.specs.RecordChanges.{HasRoom, SameRecords}
use Rattle.ic_roster.proofs.RecordLoops.{slots_of}
use Rattle.ic_roster.proofs.dependents.reserve_places.Given as goal

abbrev pub invariant-loop-cause : goal.invariant-loop-cause
invariant-loop-cause l = record {
  same : SameRecords l.initial.records.slots l.records.slots;
  room : (k : ℕ) → has k (slots_of (take l.cause-index l.causes)) ≡ true → HasRoom l.records.slots k;
}
