-- What a command is answered, and what state it leaves.
use Rattle.std.specs.Prelude.{◌≡◌, ◌<◌, ◌≤◌, List, [], codes, length, ℕ}
use Rattle.ic_name.specs.Events.{Event, Pair, pair}
use Rattle.ic_name.specs.declared.limits.TheConstants.{MAX_LINES}
use Rattle.ic_name.specs.declared.lines.Call.TheVariants as call
use Rattle.ic_name.specs.declared.lines.Reply.TheVariants as reply
use Rattle.ic_path.specs.Orders.{IsIn}
use Rattle.ic_theory.specs.Starts.{Start}
use Rattle.ic_theory.specs.Nets.{net_of, IsSameNet}
use Rattle.ic_theory.specs.Listed.{ListedNet, IsListing, shown}
use Rattle.ic_theory.specs.Active.{IsActive, ArePresent}
use Rattle.ic_theory.specs.Machine.{Standing, State, events, MachineStep}
use Rattle.ic_text.specs.NetText.{net_text}
use Rattle.ic_cause.specs.Journals.{Ranked, IsJournal, journal_text}
use Rattle.ic_command.specs.declared.command.Command.{Command}
use Rattle.ic_command.specs.declared.command.Command.TheVariants.{Nothing, Net, Active, Journal, Fire, Undo, Why, Unwind, UndoAll, Reduce, Malformed}
use Rattle.ic_answer.specs.declared.refused.Refused.TheVariants as refused
use Rattle.ic_answer.specs.Texts.{pair_line, active_text, why_text, unwound_text, undone_all_text, reduced_text, wanting_after, refusal_text}
use Rattle.ic_answer.specs.Standing.{AreActive, HasRank, AreCauses}
use Rattle.ic_answer.specs.Unwinding.{RestsOn, IsAnyEvent, AreLastFirst, DontFit, events_of, AreUndoneInTurn}
use Rattle.ic_journal.specs.Reducing.{IsNormal, AreFiredInTurn, MeetsLimit}

-- a standing event of this name
pub record IsNamed (st : State) (p : Pair) (x : Standing) : Type 0 where
  pub stands : IsIn x st.standing
  pub name : pair x.event ≡ p

-- no standing event has the name
abbrev pub NoneIsNamed : State → Pair → Type 0
NoneIsNamed st p = (x : Standing) → ¬ (IsNamed st p x)

-- an event of this name whose two agents are there
pub record IsPresent (s : Start) (st : State) (p : Pair) (e : Event) : Type 0 where
  pub present : ArePresent s (events st) e
  pub name : pair e ≡ p

-- one of the two agents isn't there
abbrev pub NoneIsPresent : Start → State → Pair → Type 0
NoneIsPresent s st p = (e : Event) → ¬ (IsPresent s st p e)

-- a command that may find no memory before it has changed anything
abbrev pub MayWant : Command → Type 0
MayWant Nothing = ⊥
MayWant Malformed = ⊥
MayWant (Reduce most) = ⊥
MayWant Net = Unit {0}
MayWant Active = Unit {0}
MayWant Journal = Unit {0}
MayWant (Why p) = Unit {0}
MayWant (Fire p) = Unit {0}
MayWant (Undo p) = Unit {0}
MayWant (Unwind p) = Unit {0}
MayWant UndoAll = Unit {0}

-- the answer to a command, and the state after it
pub data RepliesToCommand (s : Start) (st : State) : Command → List ℕ → State → Type 0 where
  nothing : RepliesToCommand s st Nothing [] st
  malformed : RepliesToCommand s st Malformed (refusal_text refused.Command) st
  net : {l : ListedNet} → IsListing l → IsSameNet (shown l) (net_of s (events st)) → RepliesToCommand s st Net (net_text s.names l) st
  active : {es : List Event} → AreActive s (events st) es → RepliesToCommand s st Active (active_text es) st
  journal : {xs : List Ranked} → IsJournal s (events st) xs → RepliesToCommand s st Journal (journal_text xs) st
  why : {p : Pair} {x : Standing} {r : ℕ} {cs : List Event} → IsNamed st p x → HasRank s (events st) x.event r → AreCauses s (events st) x.event cs
      → RepliesToCommand s st (Why p) (why_text p r cs) st
  why_not_standing : {p : Pair} → NoneIsNamed st p → RepliesToCommand s st (Why p) (refusal_text refused.NotStanding) st
  fire_unknown : {p : Pair} → NoneIsPresent s st p → RepliesToCommand s st (Fire p) (refusal_text refused.NotActive) st
  fire_history_full : {p : Pair} {e : Event} → IsPresent s st p e → st.lines ≡ MAX_LINES → RepliesToCommand s st (Fire p) (refusal_text refused.HistoryFull) st
  fired : {p : Pair} {e : Event} {next : State} → IsPresent s st p e → st.lines < MAX_LINES → MachineStep s st (call.Fire e) reply.Fired next
      → RepliesToCommand s st (Fire p) (pair_line (codes "fired ") p) next
  fire_not_active : {p : Pair} {e : Event} {next : State} → IsPresent s st p e → st.lines < MAX_LINES → MachineStep s st (call.Fire e) reply.NotActive next
      → RepliesToCommand s st (Fire p) (refusal_text refused.NotActive) next
  fire_deep : {p : Pair} {e : Event} {next : State} → IsPresent s st p e → st.lines < MAX_LINES → MachineStep s st (call.Fire e) reply.Deep next
      → RepliesToCommand s st (Fire p) (refusal_text refused.Deep) next
  fire_full : {p : Pair} {e : Event} {next : State} → IsPresent s st p e → st.lines < MAX_LINES → MachineStep s st (call.Fire e) reply.Full next
      → RepliesToCommand s st (Fire p) (refusal_text refused.Full) next
  undo_not_standing : {p : Pair} → NoneIsNamed st p → RepliesToCommand s st (Undo p) (refusal_text refused.NotStanding) st
  undo_history_full : {p : Pair} {x : Standing} → IsNamed st p x → st.lines ≡ MAX_LINES → RepliesToCommand s st (Undo p) (refusal_text refused.HistoryFull) st
  undone : {p : Pair} {x : Standing} {next : State} → IsNamed st p x → st.lines < MAX_LINES → MachineStep s st (call.Undo x.line) reply.Undone next
      → RepliesToCommand s st (Undo p) (pair_line (codes "undone ") p) next
  undo_held : {p : Pair} {x y : Standing} {next : State} → IsNamed st p x → st.lines < MAX_LINES → IsIn y st.standing
      → MachineStep s st (call.Undo x.line) (reply.Held y.line) next → RepliesToCommand s st (Undo p) (pair_line (codes "refused 32 held by ") (pair y.event)) next
  undo_held_memory : {p : Pair} {x y : Standing} {next : State} → IsNamed st p x → st.lines < MAX_LINES → IsIn y st.standing
      → MachineStep s st (call.Undo x.line) (reply.Held y.line) next → RepliesToCommand s st (Undo p) (refusal_text refused.Memory) next
  unwind_not_standing : {p : Pair} → NoneIsNamed st p → RepliesToCommand s st (Unwind p) (refusal_text refused.NotStanding) st
  unwind_history_full : {p : Pair} {x : Standing} {es : List Event} → IsNamed st p x → AreLastFirst s (events st) (RestsOn s (events st) x.event) es
      → DontFit st es → RepliesToCommand s st (Unwind p) (refusal_text refused.HistoryFull) st
  unwound : {p : Pair} {x : Standing} {xs : List Standing} {next : State} → IsNamed st p x
      → AreLastFirst s (events st) (RestsOn s (events st) x.event) (events_of xs) → AreUndoneInTurn s st xs next
      → RepliesToCommand s st (Unwind p) (unwound_text (events_of xs)) next
  undo_all_history_full : {es : List Event} → AreLastFirst s (events st) IsAnyEvent es → DontFit st es
      → RepliesToCommand s st UndoAll (refusal_text refused.HistoryFull) st
  undone_all : {xs : List Standing} {next : State} → AreLastFirst s (events st) IsAnyEvent (events_of xs) → AreUndoneInTurn s st xs next
      → RepliesToCommand s st UndoAll (undone_all_text (length xs)) next
  reduced_normal : {most n : ℕ} {next : State} → AreFiredInTurn s n st next → n ≤ most → IsNormal s (events next)
      → RepliesToCommand s st (Reduce most) (reduced_text n (codes "normal")) next
  reduced_budget : {most : ℕ} {e : Event} {next : State} → AreFiredInTurn s most st next → IsActive s (events next) e
      → RepliesToCommand s st (Reduce most) (reduced_text most (codes "budget")) next
  reduced_limit : {most n : ℕ} {mid next : State} → AreFiredInTurn s n st mid → n < most → MeetsLimit s mid next
      → RepliesToCommand s st (Reduce most) (reduced_text n (codes "limit")) next
  reduced_memory : {most n : ℕ} {next : State} → AreFiredInTurn s n st next → n < most → RepliesToCommand s st (Reduce most) (wanting_after n) next
  reduce_memory : {most : ℕ} → RepliesToCommand s st (Reduce most) (wanting_after 0) st
  memory : {c : Command} → MayWant c → RepliesToCommand s st c (refusal_text refused.Memory) st
