-- Benches that come of one another by calls.
use Rattle.std.specs.Prelude.{ℕ, Result}
use Rattle.ic_name.specs.Events.{Event}
use Rattle.ic_name.specs.declared.ids.EventId.{EventId}
use Rattle.ic_journal.specs.Views.{BenchView}
use Rattle.ic_journal.specs.Calls.{Fires, Undoes, Reserves}
use Rattle.ic_journal.specs.declared.faults.FireFault.{FireFault}
use Rattle.ic_journal.specs.declared.faults.UndoFault.{UndoFault}
use Rattle.ic_journal.specs.declared.faults.ReserveFault.{ReserveFault}

-- one call, whatever its answer: an event is fired, one is undone, or room is reserved
pub data IsCalled (old new : BenchView) : Type 0 where
  fires : (e : Event) (answer : Result EventId FireFault) → Fires old e answer new → IsCalled old new
  undoes : (id : EventId) (answer : Result (Unit {0}) UndoFault) → Undoes old id answer new → IsCalled old new
  reserves : (lines : ℕ) (answer : Result (Unit {0}) ReserveFault) → Reserves old lines answer new → IsCalled old new

-- any number of calls, one after the other
pub data ComesTo (old : BenchView) : BenchView → Type 0 where
  at_once : ComesTo old old
  by_call : {mid new : BenchView} → ComesTo old mid → IsCalled mid new → ComesTo old new
