-- The limits that firing an event meets.
use Rattle.std.specs.Prelude.{Option, None, Some}
use Rattle.ic_name.specs.Events.{Event}
use Rattle.ic_theory.specs.Machine.{IsDeep, IsFull}
use Rattle.ic_set.specs.Views.{SetView, standing}
use Rattle.ic_journal.specs.declared.faults.PairFault.{PairFault}
use Rattle.ic_journal.specs.declared.faults.PairFault.TheVariants as pair
use Rattle.ic_history.specs.declared.limit.Limit.{Limit}
use Rattle.ic_history.specs.declared.limit.Limit.TheVariants.{Deep, Full}

-- the answer of the bench for an active pair
abbrev pub fault_of : Limit → PairFault
fault_of Deep = pair.Deep
fault_of Full = pair.Full

-- the limit that firing an event meets, if it meets one
abbrev pub Meets : SetView → Event → Option Limit → Type 0
Meets v e None = ¬ (IsDeep e) × ¬ (IsFull v.start (standing v) e)
Meets v e (Some Deep) = IsDeep e
Meets v e (Some Full) = ¬ (IsDeep e) × IsFull v.start (standing v) e
