-- The numbers of faults.
use Rattle.std.specs.Prelude.{ℕ}
use Rattle.ic_name.specs.declared.numbers.TheConstants.{DEEP, FULL, HELD, HISTORY_FULL, MEMORY, NOT_ACTIVE, NOT_STANDING}
use Rattle.ic_journal.specs.declared.faults.FireFault.{FireFault}
use Rattle.ic_journal.specs.declared.faults.FireFault.TheVariants as fire
use Rattle.ic_journal.specs.declared.faults.PairFault.{PairFault}
use Rattle.ic_journal.specs.declared.faults.PairFault.TheVariants as pair
use Rattle.ic_journal.specs.declared.faults.UndoFault.{UndoFault}
use Rattle.ic_journal.specs.declared.faults.UndoFault.TheVariants as undo
use Rattle.ic_journal.specs.declared.faults.ReserveFault.{ReserveFault}
use Rattle.ic_journal.specs.declared.faults.ReserveFault.TheVariants as reserve
use Rattle.ic_journal.specs.declared.faults.ProposeFault.{ProposeFault}
use Rattle.ic_journal.specs.declared.faults.ProposeFault.TheVariants as propose

-- the number of a refusal of `fire`
abbrev pub fire_number : FireFault → ℕ
fire_number (fire.HistoryFull e) = HISTORY_FULL
fire_number fire.NotActive = NOT_ACTIVE
fire_number fire.Deep = DEEP
fire_number fire.Full = FULL
fire_number (fire.Memory e) = MEMORY

-- the number of a refusal of `fire_pair`
abbrev pub pair_number : PairFault → ℕ
pair_number pair.HistoryFull = HISTORY_FULL
pair_number pair.Deep = DEEP
pair_number pair.Full = FULL
pair_number pair.Memory = MEMORY

-- the number of a refusal of `undo`
abbrev pub undo_number : UndoFault → ℕ
undo_number undo.HistoryFull = HISTORY_FULL
undo_number undo.NotStanding = NOT_STANDING
undo_number (undo.Held d) = HELD
undo_number undo.Memory = MEMORY

-- the number of a refusal of `reserve`
abbrev pub reserve_number : ReserveFault → ℕ
reserve_number reserve.HistoryFull = HISTORY_FULL
reserve_number reserve.Memory = MEMORY

-- the number of a refusal of `propose`
abbrev pub propose_number : ProposeFault → ℕ
propose_number propose.NotActive = NOT_ACTIVE
propose_number propose.Memory = MEMORY
