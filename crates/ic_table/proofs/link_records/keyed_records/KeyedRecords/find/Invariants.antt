use Rattle.std.proofs.Common.{◌≡◌, ◌≢◌, ℕ, ◌<◌, Some}
use Rattle.ic_link.specs.Links.{event_link}
use Rattle.ic_table.specs.declared.link_records.LinkRecord.{LinkRecord}
use Rattle.ic_table.specs.KeyedRows.{keyed_row}
use Rattle.ic_table.proofs.link_records.keyed_records.KeyedRecords.find.Given as goal

abbrev pub invariant-loop-key : goal.invariant-loop-key
invariant-loop-key l = (k : ℕ) → k < l.key → (row : LinkRecord) → keyed_row l.self k ≡ Some row → row.id ≢ event_link l.fn.event l.fn.place
