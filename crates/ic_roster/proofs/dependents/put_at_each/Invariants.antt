use Rattle.std.proofs.Common.{◌≡◌, ℕ, true, false, take}
use Rattle.ic_roster.specs.Records.{has}
use Rattle.ic_roster.specs.RecordChanges.{HasRoom, Changes, Puts}
use Rattle.ic_roster.proofs.RecordLoops.{slots_of}
use Rattle.ic_roster.proofs.dependents.put_at_each.Given as goal

abbrev pub invariant-loop-cause : goal.invariant-loop-cause
invariant-loop-cause l = record {
  changes : Changes (Puts l.event) (slots_of (take l.cause-index l.causes)) l.initial.records.slots l.records.slots;
  room : (k : ℕ) → has k (slots_of l.causes) ≡ true → has k (slots_of (take l.cause-index l.causes)) ≡ false → HasRoom l.records.slots k;
}
