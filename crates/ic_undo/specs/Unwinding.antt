-- What undoing more than one event does.
use Rattle.std.specs.Prelude.{◌≡◌, ◌+◌, ◌<◌, List, length}
use Rattle.ic_name.specs.declared.ids.EventId.{EventId}
use Rattle.ic_name.specs.declared.limits.TheConstants.{MAX_LINES}
use Rattle.ic_roster.specs.Rosters.{Stander}
use Rattle.ic_set.specs.Orders.{IsAny}
use Rattle.ic_journal.specs.Views.{BenchView}
use Rattle.ic_journal.specs.Reads.{NoneStands}
use Rattle.ic_journal.specs.Calls.{Stays}
use Rattle.ic_undo.specs.declared.faults.UnwindFault.{UnwindFault}
use Rattle.ic_undo.specs.declared.faults.UnwindFault.TheVariants as unwind
use Rattle.ic_undo.specs.declared.faults.UndoAllFault.{UndoAllFault}
use Rattle.ic_undo.specs.declared.faults.UndoAllFault.TheVariants as undo_all
use Rattle.ic_undo.specs.Undone.{RestsOn, AreLastFirst}

-- the history would be too long with a line for each standing event of the property
abbrev pub DontFit : BenchView → (Stander → Type 0) → Type 0
DontFit v P = (xs : List Stander) × AreLastFirst v P xs × (MAX_LINES < length v.lines + length xs)

-- why the event whose firing is the line of the id isn't unwound; nothing but the room may then change, and that only
-- for want of memory
abbrev pub IsntUnwound : BenchView → EventId → UnwindFault → BenchView → Type 0
IsntUnwound old id unwind.NotStanding new = NoneStands old id × Stays old new
IsntUnwound old id unwind.HistoryFull new = ¬ (NoneStands old id) × DontFit old (RestsOn old id.line) × (new ≡ old)
IsntUnwound old id unwind.Memory new = ¬ (NoneStands old id) × Stays old new

-- why not all events are undone
abbrev pub ArentUndone : BenchView → UndoAllFault → BenchView → Type 0
ArentUndone old undo_all.HistoryFull new = DontFit old IsAny × (new ≡ old)
ArentUndone old undo_all.Memory new = Stays old new
