-- What the answer to each command says of the state and of the one that it leaves, where it doesn't tell of want of
-- memory.
use Rattle.std.proofs.Common.{◌≡◌, ℕ, ◌<◌, ◌≤◌, List, [], length, refl}
use Rattle.std.specs.Prelude.{codes}
use Rattle.ic_name.specs.Events.{Event, Pair, pair}
use Rattle.ic_name.specs.declared.limits.TheConstants.{MAX_LINES}
use Rattle.ic_name.specs.declared.lines.Call.TheVariants as call
use Rattle.ic_name.specs.declared.lines.Reply.{Reply}
use Rattle.ic_name.specs.declared.lines.Reply.TheVariants as reply
use Rattle.ic_path.specs.Orders.{IsIn}
use Rattle.ic_theory.specs.Starts.{Start}
use Rattle.ic_theory.specs.Nets.{net_of, IsSameNet}
use Rattle.ic_theory.specs.Listed.{ListedNet, IsListing, shown}
use Rattle.ic_theory.specs.Active.{IsActive}
use Rattle.ic_theory.specs.Machine.{Standing, State, events, MachineStep}
use Rattle.ic_text.specs.NetText.{net_text}
use Rattle.ic_cause.specs.Journals.{Ranked, IsJournal, journal_text}
use Rattle.ic_command.specs.declared.command.Command.{Command}
use Rattle.ic_command.specs.declared.command.Command.TheVariants.{Nothing, Net, Active, Journal, Fire, Undo, Why, Unwind, UndoAll, Reduce, Malformed}
use Rattle.ic_answer.specs.declared.refused.Refused.TheVariants as refused
use Rattle.ic_answer.specs.CommandReplies.{IsNamed, NoneIsNamed, IsPresent, NoneIsPresent, RepliesToCommand}
use Rattle.ic_answer.specs.CommandReplies as told
use Rattle.ic_journal.specs.Reducing.{IsNormal, AreFiredInTurn, MeetsLimit}
use Rattle.ic_answer.specs.Standing.{AreActive, HasRank, AreCauses}
use Rattle.ic_answer.specs.Texts.{pair_line, active_text, why_text, unwound_text, undone_all_text, reduced_text, refusal_text}
use Rattle.ic_answer.specs.Unwinding.{RestsOn, IsAnyEvent, AreLastFirst, DontFit, events_of, AreUndoneInTurn}
use Rattle.ic_session.specs.Wants.{Wants}
use Rattle.ic_session.proofs.WantingTexts.{refusal_wants, run_wants}

-- the rank and the causes of an event
pub data WhySays (s : Start) (st : State) (p : Pair) (x : List ℕ) : Type 0 where
  no_event : NoneIsNamed st p → x ≡ refusal_text refused.NotStanding → WhySays s st p x
  why : {y : Standing} {r : ℕ} {cs : List Event} → IsNamed st p y → HasRank s (events st) y.event r → AreCauses s (events st) y.event cs → x ≡ why_text p r cs → WhySays s st p x

-- what is told where the machine was called to fire
abbrev pub fire_text : Pair → Reply → List ℕ
fire_text p reply.Fired = pair_line (codes "fired ") p
fire_text p reply.NotActive = refusal_text refused.NotActive
fire_text p reply.Deep = refusal_text refused.Deep
fire_text p reply.Full = refusal_text refused.Full
fire_text p reply.Undone = []
fire_text p reply.NotStanding = []
fire_text p (reply.Held l) = []

-- a firing
pub data FireSays (s : Start) (st : State) (p : Pair) (x : List ℕ) (next : State) : Type 0 where
  no_agents : NoneIsPresent s st p → x ≡ refusal_text refused.NotActive → next ≡ st → FireSays s st p x next
  no_line : {e : Event} → IsPresent s st p e → st.lines ≡ MAX_LINES → x ≡ refusal_text refused.HistoryFull → next ≡ st → FireSays s st p x next
  called : {e : Event} {q : Reply} → IsPresent s st p e → st.lines < MAX_LINES → MachineStep s st (call.Fire e) q next → x ≡ fire_text p q → FireSays s st p x next

-- the undoing of an event
pub data UndoSays (s : Start) (st : State) (p : Pair) (x : List ℕ) (next : State) : Type 0 where
  no_event : NoneIsNamed st p → x ≡ refusal_text refused.NotStanding → next ≡ st → UndoSays s st p x next
  no_line : {y : Standing} → IsNamed st p y → st.lines ≡ MAX_LINES → x ≡ refusal_text refused.HistoryFull → next ≡ st → UndoSays s st p x next
  undone : {y : Standing} → IsNamed st p y → st.lines < MAX_LINES → MachineStep s st (call.Undo y.line) reply.Undone next → x ≡ pair_line (codes "undone ") p → UndoSays s st p x next
  held : {y z : Standing} → IsNamed st p y → st.lines < MAX_LINES → IsIn z st.standing → MachineStep s st (call.Undo y.line) (reply.Held z.line) next
      → x ≡ pair_line (codes "refused 32 held by ") (pair z.event) → UndoSays s st p x next

-- the undoing of an event with all that rests on it
pub data UnwindSays (s : Start) (st : State) (p : Pair) (x : List ℕ) (next : State) : Type 0 where
  no_event : NoneIsNamed st p → x ≡ refusal_text refused.NotStanding → next ≡ st → UnwindSays s st p x next
  no_lines : {y : Standing} {es : List Event} → IsNamed st p y → AreLastFirst s (events st) (RestsOn s (events st) y.event) es → DontFit st es
      → x ≡ refusal_text refused.HistoryFull → next ≡ st → UnwindSays s st p x next
  unwound : {y : Standing} {xs : List Standing} → IsNamed st p y → AreLastFirst s (events st) (RestsOn s (events st) y.event) (events_of xs) → AreUndoneInTurn s st xs next
      → x ≡ unwound_text (events_of xs) → UnwindSays s st p x next

-- the undoing of all events
pub data UndoAllSays (s : Start) (st : State) (x : List ℕ) (next : State) : Type 0 where
  no_lines : {es : List Event} → AreLastFirst s (events st) IsAnyEvent es → DontFit st es → x ≡ refusal_text refused.HistoryFull → next ≡ st → UndoAllSays s st x next
  undone : {xs : List Standing} → AreLastFirst s (events st) IsAnyEvent (events_of xs) → AreUndoneInTurn s st xs next → x ≡ undone_all_text (length xs) → UndoAllSays s st x next

-- the firing of active pairs in turn
pub data ReduceSays (s : Start) (st : State) (most : ℕ) (x : List ℕ) (next : State) : Type 0 where
  normal : {n : ℕ} → AreFiredInTurn s n st next → n ≤ most → IsNormal s (events next) → x ≡ reduced_text n (codes "normal") → ReduceSays s st most x next
  budget : {e : Event} → AreFiredInTurn s most st next → IsActive s (events next) e → x ≡ reduced_text most (codes "budget") → ReduceSays s st most x next
  limit : {n : ℕ} {mid : State} → AreFiredInTurn s n st mid → n < most → MeetsLimit s mid next → x ≡ reduced_text n (codes "limit") → ReduceSays s st most x next

-- what the answer to the command says
abbrev pub Says : Start → State → Command → List ℕ → State → Type 0
Says s st Nothing x next = (x ≡ []) × (next ≡ st)
Says s st Malformed x next = (x ≡ refusal_text refused.Command) × (next ≡ st)
Says s st Net x next = (l : ListedNet) × IsListing l × IsSameNet (shown l) (net_of s (events st)) × (x ≡ net_text s.names l) × (next ≡ st)
Says s st Active x next = (es : List Event) × AreActive s (events st) es × (x ≡ active_text es) × (next ≡ st)
Says s st Journal x next = (js : List Ranked) × IsJournal s (events st) js × (x ≡ journal_text js) × (next ≡ st)
Says s st (Why p) x next = WhySays s st p x × (next ≡ st)
Says s st (Fire p) x next = FireSays s st p x next
Says s st (Undo p) x next = UndoSays s st p x next
Says s st (Unwind p) x next = UnwindSays s st p x next
Says s st UndoAll x next = UndoAllSays s st x next
Says s st (Reduce most) x next = ReduceSays s st most x next

-- each answer says it, or tells of want of memory
pub says : {s : Start} {st next : State} {c : Command} {x : List ℕ} → RepliesToCommand s st c x next → ¬ (Wants x) → Says s st c x next
says told.nothing w = (refl, refl)
says told.malformed w = (refl, refl)
says (told.net h k) w = (_, h, k, refl, refl)
says (told.active h) w = (_, h, refl, refl)
says (told.journal h) w = (_, h, refl, refl)
says (told.why h r k) w = (why h r k refl, refl)
says (told.why_not_standing h) w = (WhySays.no_event h refl, refl)
says (told.fire_unknown h) w = no_agents h refl refl
says (told.fire_history_full h full) w = FireSays.no_line h full refl refl
says (told.fired h few a) w = called h few a refl
says (told.fire_not_active h few a) w = called h few a refl
says (told.fire_deep h few a) w = called h few a refl
says (told.fire_full h few a) w = called h few a refl
says (told.undo_not_standing h) w = UndoSays.no_event h refl refl
says (told.undo_history_full h full) w = UndoSays.no_line h full refl refl
says (told.undone h few a) w = UndoSays.undone h few a refl
says (told.undo_held h few i a) w = held h few i a refl
says (told.undo_held_memory h few i a) w = absurd (w refusal_wants)
says (told.unwind_not_standing h) w = UnwindSays.no_event h refl refl
says (told.unwind_history_full h l d) w = UnwindSays.no_lines h l d refl refl
says (told.unwound h l u) w = unwound h l u refl
says (told.undo_all_history_full l d) w = UndoAllSays.no_lines l d refl refl
says (told.undone_all l u) w = UndoAllSays.undone l u refl
says (told.reduced_normal f l n) w = normal f l n refl
says (told.reduced_budget f a) w = budget f a refl
says (told.reduced_limit f l m) w = limit f l m refl
says (told.reduced_memory {n = n} f l) w = absurd (w (run_wants n))
says told.reduce_memory w = absurd (w (run_wants 0))
says (told.memory m) w = absurd (w refusal_wants)
