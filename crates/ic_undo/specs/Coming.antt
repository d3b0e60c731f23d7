-- Listed events that come to stand, each in its turn.
use Rattle.std.specs.Prelude.{◌≡◌, ◌⊎◌, Bool, List, [], ◌∷◌, ◌++◌, map, Option, Ok}
use Rattle.ic_name.specs.Events.{Event, Pair, pair}
use Rattle.ic_name.specs.declared.ids.EventId.{EventId}
use Rattle.ic_name.specs.declared.lines.Call.TheVariants.{Fire}
use Rattle.ic_name.specs.declared.lines.Reply.TheVariants as reply
use Rattle.ic_path.specs.Orders.{IsIn}
use Rattle.ic_theory.specs.Active.{IsActive}
use Rattle.ic_roster.specs.Rosters.{Member}
use Rattle.ic_set.specs.declared.pairs.ActivePair.{ActivePair}
use Rattle.ic_set.specs.Pairs.{Awakes}
use Rattle.ic_set.specs.Views.{standing}
use Rattle.ic_journal.specs.Benches.{IsBench}
use Rattle.ic_journal.specs.Calls.{Fires, Refuses, Stays}
use Rattle.ic_journal.specs.Views.{BenchView, set_of}
use Rattle.ic_undo.specs.declared.faults.AbsorbFault.{AbsorbFault}
use Rattle.ic_undo.specs.declared.faults.AbsorbFault.TheVariants as absorb
use Rattle.ic_undo.specs.declared.turns.Hindrance.{Hindrance}
use Rattle.ic_undo.specs.declared.turns.Hindrance.TheVariants as hindrance
use Rattle.ic_undo.specs.Absorbing.{IsLeastListed, AreLeastInTurn}
use Rattle.ic_journal.specs.Undone.{AreFree}
use Rattle.ic_undo.specs.GoingBack.{AreFired}
use Rattle.ic_undo.specs.Ready.{AddsPairs}

-- listed events were fired, each in its turn, and these are their ids; they can be undone from the last one on
pub record Comes (old : BenchView) (names : List Pair) (ids : List EventId) (new : BenchView) : Type 0 where
  pub came : List Event
  pub in_turn : AreLeastInTurn old.start (standing (set_of old)) names came
  pub fired : AreFired old came new
  pub under : map (λ x. x.id) fired.came ≡ ids
  pub free : AreFree new fired.came
  pub agents : (m : Member) → IsIn m old.agents → IsIn m new.agents

-- no listed event is active
abbrev pub NoneListed : BenchView → List Pair → Type 0
NoneListed v names = (e : Event) → IsActive v.start (standing (set_of v)) e → IsIn (pair e) names → ⊥

-- the event was fired, and its id is noted
abbrev pub IsNoted : BenchView → Event → List EventId → List EventId → BenchView → Type 0
IsNoted old e ids more new = (id : EventId) × Fires old e (Ok id) new × (more ≡ ids ++ id ∷ [])

-- the event was fired, its id is noted, and the waiting pairs that became active by it are ready
pub record FiresReady (old : BenchView) (e : Event) (waits : Pair → Bool) (at at' : Pair → Option ActivePair) (ids more : List EventId) (new : BenchView) : Type 0 where
  pub noted : IsNoted old e ids more new
  pub awoken : List (Option ActivePair)
  pub awakes : Awakes (set_of old) (set_of new) awoken
  pub adds : AddsPairs (set_of new) waits awoken at at'

-- what hinders the firing of a ready event; where memory ran out the event may have been fired, and its id is noted then
abbrev pub Hinders : BenchView → Event → Hindrance → List EventId → List EventId → BenchView → Type 0
Hinders old e hindrance.Deep ids more new = Refuses old (Fire e) reply.Deep new × (more ≡ ids)
Hinders old e hindrance.Full ids more new = Refuses old (Fire e) reply.Full new × (more ≡ ids)
Hinders old e hindrance.Memory ids more new = (Stays old new × (more ≡ ids)) ⊎ IsNoted old e ids more new

-- after events that came, this hindered the next one
abbrev pub HindersNext : BenchView → List Pair → Hindrance → BenchView → Type 0
HindersNext mid names hindrance.Deep new = (e : Event) × IsLeastListed mid.start (standing (set_of mid)) names e × Refuses mid (Fire e) reply.Deep new
HindersNext mid names hindrance.Full new = (e : Event) × IsLeastListed mid.start (standing (set_of mid)) names e × Refuses mid (Fire e) reply.Full new
HindersNext mid names hindrance.Memory new = Stays mid new

-- listed events came, and then something hindered the next one
pub record StopsComing (old : BenchView) (names : List Pair) (ids : List EventId) (why : Hindrance) (new : BenchView) : Type 0 where
  pub between : BenchView
  pub lawful : IsBench between
  pub comes : Comes old names ids between
  pub hinders : HindersNext between names why new

-- the fault that a hindrance is
abbrev pub fault_from : Hindrance → AbsorbFault
fault_from hindrance.Deep = absorb.Deep
fault_from hindrance.Full = absorb.Full
fault_from hindrance.Memory = absorb.Memory
