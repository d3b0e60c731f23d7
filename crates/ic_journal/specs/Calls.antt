-- What the calls of a bench do: one step of the machine each.
use Rattle.std.specs.Prelude.{◌≡◌, ℕ, ◌+◌, ◌≤◌, ◌<◌, [], ◌∷◌, ◌++◌, length, List, Option, Result, Ok, Err}
use Rattle.ic_name.specs.Events.{Event}
use Rattle.ic_name.specs.declared.ids.EventId.{EventId}
use Rattle.ic_name.specs.declared.limits.TheConstants.{MAX_LINES}
use Rattle.ic_name.specs.declared.lines.Call.{Call}
use Rattle.ic_name.specs.declared.lines.Call.TheVariants.{Fire, Undo}
use Rattle.ic_name.specs.declared.lines.Reply.{Reply}
use Rattle.ic_name.specs.declared.lines.Reply.TheVariants as reply
use Rattle.ic_path.specs.Orders.{IsIn}
use Rattle.ic_theory.specs.Machine.{State, MachineStep}
use Rattle.ic_roster.specs.Rosters.{Stander}
use Rattle.ic_set.specs.declared.pairs.ActivePair.{ActivePair}
use Rattle.ic_set.specs.declared.pairs.Fired.{Fired}
use Rattle.ic_set.specs.Changes.{IsSame, Admits, TakesOut}
use Rattle.ic_set.specs.Pairs.{Awakes}
use Rattle.ic_journal.specs.Views.{BenchView, set_of}
use Rattle.ic_journal.specs.Benches.{IsAt}
use Rattle.ic_journal.specs.declared.faults.FireFault.{FireFault}
use Rattle.ic_journal.specs.declared.faults.FireFault.TheVariants as fire
use Rattle.ic_journal.specs.declared.faults.PairFault.{PairFault}
use Rattle.ic_journal.specs.declared.faults.PairFault.TheVariants as pair
use Rattle.ic_journal.specs.declared.faults.UndoFault.{UndoFault}
use Rattle.ic_journal.specs.declared.faults.UndoFault.TheVariants as undo
use Rattle.ic_journal.specs.declared.faults.ReserveFault.{ReserveFault}
use Rattle.ic_journal.specs.declared.faults.ReserveFault.TheVariants as reserve

-- one step of the machine: a line more with its reply, and at most one line of room less
pub record Steps (old : BenchView) (call : Call) (answer : Reply) (new : BenchView) : Type 0 where
  pub start : new.start ≡ old.start
  pub lines : new.lines ≡ old.lines ++ record { call = call; reply = answer } ∷ []
  pub room : old.room ≤ new.room + 1
  pub step : (st : State) → IsAt old st → (next : State) × MachineStep old.start st call answer next × IsAt new next

-- a step that is refused: what stands, and who is there, is the same
abbrev pub Refuses : BenchView → Call → Reply → BenchView → Type 0
Refuses old call answer new = Steps old call answer new × IsSame (set_of old) (set_of new)

-- no step: nothing but the room may change, and that only grows
pub record Stays (old new : BenchView) : Type 0 where
  pub same : IsSame (set_of old) (set_of new)
  pub lines : new.lines ≡ old.lines
  pub room : old.room ≤ new.room

-- what firing an event does
abbrev pub Fires : BenchView → Event → Result EventId FireFault → BenchView → Type 0
Fires old e (Ok id) new = Steps old (Fire e) reply.Fired new × Admits (set_of old) e (length old.lines) id (set_of new)
Fires old e (Err fire.NotActive) new = Refuses old (Fire e) reply.NotActive new
Fires old e (Err fire.Deep) new = Refuses old (Fire e) reply.Deep new
Fires old e (Err fire.Full) new = Refuses old (Fire e) reply.Full new
Fires old e (Err (fire.HistoryFull f)) new = (length old.lines ≡ MAX_LINES) × (f ≡ e) × (new ≡ old)
Fires old e (Err (fire.Memory f)) new = (length old.lines < MAX_LINES) × (f ≡ e) × Stays old new

-- the answer to a firing, with the id alone
abbrev pub id_answer : Result Fired FireFault → Result EventId FireFault
id_answer (Ok fired) = Ok fired.id
id_answer (Err fault) = Err fault

-- the answer to a firing, with the pairs that became active by it
abbrev pub awoken_answer : Result EventId PairFault → List (Option ActivePair) → Result Fired PairFault
awoken_answer (Ok id) awoken = Ok (record { id = id; awoken = awoken })
awoken_answer (Err fault) awoken = Err fault

-- what firing the event of an active pair does, and the pairs that become active by it
abbrev pub FiresPair : BenchView → Event → Result Fired PairFault → BenchView → Type 0
FiresPair old e (Ok fired) new = Fires old e (Ok fired.id) new × Awakes (set_of old) (set_of new) fired.awoken
FiresPair old e (Err pair.Deep) new = Refuses old (Fire e) reply.Deep new
FiresPair old e (Err pair.Full) new = Refuses old (Fire e) reply.Full new
FiresPair old e (Err pair.HistoryFull) new = (length old.lines ≡ MAX_LINES) × (new ≡ old)
FiresPair old e (Err pair.Memory) new = (length old.lines < MAX_LINES) × Stays old new

-- the event whose firing is the line of the id is there no more, nor are its children
abbrev pub LeavesOut : BenchView → EventId → BenchView → Type 0
LeavesOut old id new = (d : EventId) × (d.line ≡ id.line) × TakesOut (set_of old) d (set_of new)

-- a standing event has the id
abbrev pub IsId : BenchView → EventId → Type 0
IsId v d = (x : Stander) × IsIn x v.events × (x.id ≡ d)

-- what undoing the firing of an event does; want of memory comes only where no room is reserved
abbrev pub Undoes : BenchView → EventId → Result (Unit {0}) UndoFault → BenchView → Type 0
Undoes old id (Ok u) new = Steps old (Undo id.line) reply.Undone new × LeavesOut old id new
Undoes old id (Err undo.NotStanding) new = Refuses old (Undo id.line) reply.NotStanding new
Undoes old id (Err (undo.Held d)) new = Refuses old (Undo id.line) (reply.Held d.line) new × IsId new d
Undoes old id (Err undo.HistoryFull) new = (length old.lines ≡ MAX_LINES) × (new ≡ old)
Undoes old id (Err undo.Memory) new = (length old.lines < MAX_LINES) × (old.room ≡ 0) × (new ≡ old)

-- what reserving room for so many lines does; want of memory comes only where less room was there
abbrev pub Reserves : BenchView → ℕ → Result (Unit {0}) ReserveFault → BenchView → Type 0
Reserves old n (Ok u) new = Stays old new × (n ≤ new.room)
Reserves old n (Err reserve.HistoryFull) new = (MAX_LINES < length old.lines + n) × (new ≡ old)
Reserves old n (Err reserve.Memory) new = (length old.lines + n ≤ MAX_LINES) × (old.room < n) × (new ≡ old)
