-- What a call on a shared bench does to the pass of its caller.
use Rattle.std.specs.Prelude.{◌≡◌, ◌++◌, length, Result, Err}
use Rattle.ic_name.specs.Events.{Event}
use Rattle.ic_name.specs.declared.ids.EventId.{EventId}
use Rattle.ic_journal.specs.Views.{BenchView}
use Rattle.ic_journal.specs.Benches.{IsBench}
use Rattle.ic_journal.specs.Calls.{Fires, Undoes}
use Rattle.ic_journal.specs.declared.faults.FireFault.{FireFault}
use Rattle.ic_journal.specs.declared.faults.FireFault.TheVariants as fire
use Rattle.ic_journal.specs.declared.faults.UndoFault.{UndoFault}
use Rattle.ic_journal.specs.declared.faults.UndoFault.TheVariants as undo
use Rattle.ic_shared.specs.Passes.{PassView}
use Rattle.ic_shared.specs.Receipts.{receipts_of}
use Rattle.ic_shared.specs.CallLines.{fire_lines, undo_lines}

-- the event was fired on some bench, and the pass got a receipt for the line that this added; or memory was wanting before
-- a bench was asked
pub data FiresForPass (e : Event) (r : Result EventId FireFault) (old new : PassView) : Type 0 where
  fired : (bench after : BenchView) → IsBench bench → Fires bench e r after
      → new.receipts ≡ old.receipts ++ receipts_of (length bench.lines) (fire_lines e r) → new.ran ≡ old.ran → FiresForPass e r old new
  fire_without_memory : r ≡ Err (fire.Memory e) → new ≡ old → FiresForPass e r old new

-- the same of an undo
pub data UndoesForPass (id : EventId) (r : Result (Unit {0}) UndoFault) (old new : PassView) : Type 0 where
  undone : (bench after : BenchView) → IsBench bench → Undoes bench id r after
      → new.receipts ≡ old.receipts ++ receipts_of (length bench.lines) (undo_lines id r) → new.ran ≡ old.ran → UndoesForPass id r old new
  undo_without_memory : r ≡ Err undo.Memory → new ≡ old → UndoesForPass id r old new
