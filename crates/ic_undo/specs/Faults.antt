-- The numbers of faults.
use Rattle.std.specs.Prelude.{ℕ}
use Rattle.ic_name.specs.declared.numbers.TheConstants.{DEEP, FULL, HISTORY_FULL, MEMORY, NEVER_ACTIVE, NOT_STANDING}
use Rattle.ic_undo.specs.declared.faults.UnwindFault.{UnwindFault}
use Rattle.ic_undo.specs.declared.faults.UnwindFault.TheVariants as unwind
use Rattle.ic_undo.specs.declared.faults.UndoAllFault.{UndoAllFault}
use Rattle.ic_undo.specs.declared.faults.UndoAllFault.TheVariants as undo_all
use Rattle.ic_undo.specs.declared.faults.BackFault.{BackFault}
use Rattle.ic_undo.specs.declared.faults.BackFault.TheVariants as back
use Rattle.ic_undo.specs.declared.faults.AbsorbFault.{AbsorbFault}
use Rattle.ic_undo.specs.declared.faults.AbsorbFault.TheVariants as absorb

-- the number of a refusal of `unwind`
abbrev pub unwind_number : UnwindFault → ℕ
unwind_number unwind.NotStanding = NOT_STANDING
unwind_number unwind.HistoryFull = HISTORY_FULL
unwind_number unwind.Memory = MEMORY

-- the number of a refusal of `undo_all`
abbrev pub undo_all_number : UndoAllFault → ℕ
undo_all_number undo_all.HistoryFull = HISTORY_FULL
undo_all_number undo_all.Memory = MEMORY

-- the number of a refusal of `back`
abbrev pub back_number : BackFault → ℕ
back_number back.HistoryFull = HISTORY_FULL
back_number (back.Memory counts) = MEMORY

-- the number of a refusal of `absorb`
abbrev pub absorb_number : AbsorbFault → ℕ
absorb_number (absorb.NeverActive p why) = NEVER_ACTIVE
absorb_number absorb.Deep = DEEP
absorb_number absorb.Full = FULL
absorb_number absorb.HistoryFull = HISTORY_FULL
absorb_number absorb.Memory = MEMORY
