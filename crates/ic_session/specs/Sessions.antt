-- What a session writes.
use Rattle.std.specs.Prelude.{◌≡◌, ◌⊎◌, ◌&&◌, ℕ, Bool, true, false, List, [], ◌++◌, Option, IsSomeAnd, if◌then◌else◌}
use Rattle.std.specs.Io.KnownBytes.{Appends}
use Rattle.ic_theory.specs.Starts.{Start}
use Rattle.ic_text.specs.Grammar.{Denotes}
use Rattle.ic_text.specs.Faults.{Stands, IsFirstFault}
use Rattle.ic_text.specs.declared.grammar.refusal.Refusal.{Refusal}
use Rattle.ic_text.specs.declared.grammar.refusal.Refusal.TheVariants.{TooLong}
use Rattle.ic_session.specs.InputLines.{TextLine, lines, net_part, has_bar, command_lines}
use Rattle.ic_desk.specs.Desks.{State, initial}
use Rattle.ic_desk.specs.Views.{DeskView}
use Rattle.ic_command.specs.Faults.{AppendsFront}
use Rattle.ic_session.specs.Modes.{IsDone, RenewsAt, TakesDemand, Gives, TurnsIn, stops_at}
use Rattle.ic_session.specs.Echoes.{echoed}
use Rattle.ic_session.specs.declared.demand.Demand.{Demand}
use Rattle.ic_session.specs.declared.mode.Mode.{Mode}
use Rattle.ic_session.specs.Refusals.{refusal_line}
use Rattle.ic_session.specs.declared.net_session.NetEnd.{NetEnd}
use Rattle.ic_session.specs.declared.net_session.NetEnd.TheVariants.{Another, Over}
use Rattle.ic_session.specs.declared.session.Status.{Status}
use Rattle.ic_session.specs.declared.session.Status.TheVariants.{Ended, Stopped, NetRefused}

-- The answers to the first demands of these lines, each from the state that those before it leave, in a session of this
-- mode, which none of them ends; the state after them, and the lines that are left. What a session echoes stands before
-- each answer.
pub data AreAnswered (s : Start) (m : Mode) : State → List TextLine → List ℕ → State → List TextLine → Type 0 where
  none : {st : State} {ls : List TextLine} → AreAnswered s m st ls [] st ls
  more : {st next last : State} {ls mid left : List TextLine} {d : Demand} {reply behind : List ℕ}
      → TakesDemand m ls d mid → Gives m s st d reply next → stops_at m reply ≡ false → AreAnswered s m next mid behind last left
      → AreAnswered s m st ls (echoed m ls ++ reply ++ behind) last left

-- the answers to the first demands of these lines with the echo of the line after them, and the reply to the demand there
pub record AnswersNext (s : Start) (m : Mode) (st : State) (ls : List TextLine) (before reply : List ℕ) : Type 0 where
  pub answers : List ℕ
  pub now : State
  pub next : State
  pub between : List TextLine
  pub left : List TextLine
  pub demand : Demand
  pub answered : AreAnswered s m st ls answers now between
  pub said : before ≡ answers ++ echoed m between
  pub taken : TakesDemand m between demand left
  pub gives : Gives m s now demand reply next

-- The answers of a session that ends so: to all demands of these lines, or to all before the line that ends it; or to the
-- first of them, up to the one whose refusal ends it. A session whose net is refused answers nothing.
abbrev pub AreAnswers : Status → Start → Mode → State → List TextLine → List ℕ → Type 0
AreAnswers Ended s m st ls text = (last : State) × (left : List TextLine) × AreAnswered s m st ls text last left × IsDone m left
AreAnswers Stopped s m st ls text = (before reply : List ℕ) × AnswersNext s m st ls before reply × (stops_at m reply ≡ true) × (text ≡ before ++ reply)
AreAnswers NetRefused s m st ls text = ⊥

-- the answers to all demands of these lines before the one by which another net comes, which is in the lines behind it
pub record AnswersToNew (s : Start) (m : Mode) (st : State) (ls : List TextLine) (text : List ℕ) (behind : List TextLine) : Type 0 where
  pub last : State
  pub left : List TextLine
  pub answered : AreAnswered s m st ls text last left
  pub renewal : RenewsAt m left behind

-- the answers to the commands on one net: all up to the end of the session, or up to the line by which another net comes
abbrev pub AnswersNet : NetEnd → Start → Mode → State → List TextLine → Option (List ℕ) → List ℕ → Type 0
AnswersNet (Over status) s m st ls left text = AreAnswers status s m st ls text
AnswersNet Another s m st ls left text = IsSomeAnd left (λ rest. AnswersToNew s m st ls text (lines rest))

-- the net text of these lines denotes the start, and has no fault
pub record Begins (ls : List TextLine) (s : Start) : Type 0 where
  pub denoted : Denotes (net_part ls) s
  pub faultless : (f : Refusal) → Stands (net_part ls) f → ⊥

-- The net text denotes a start and has no fault, and the text answers the commands over a bench on which no call has
-- been made, and of which nothing is marked, in a session that ends so.
pub record AnswersCommands (m : Mode) (status : Status) (ls : List TextLine) (text : List ℕ) : Type 0 where
  pub start : Start
  pub begins : Begins ls start
  pub answers : AreAnswers status start m initial (command_lines ls) text

-- The text names the first fault of the net text.
pub record NamesFirst (ls : List TextLine) (text : List ℕ) : Type 0 where
  pub fault : Refusal
  pub first : IsFirstFault (net_part ls) fault
  pub named : text ≡ refusal_line fault

-- it does, in a session that ends with that: it doesn't go on with another net, or its lines end there, or reading stopped
pub record EndsRefused (m : Mode) (ls : List TextLine) (text : List ℕ) : Type 0 where
  pub names : NamesFirst ls text
  pub last : m.retries ≡ true → (has_bar ls ≡ false) ⊎ (names.fault ≡ TooLong)

-- how a session ends with a net that was refused, which goes on then or not, where a bar ended the net text or not
abbrev pub end_refused : Bool → Bool → NetEnd
end_refused retries barred = if retries && barred then Another else Over NetRefused

-- what a session writes whose last net is that of these lines, and which ends so
abbrev pub IsLastText : Mode → List TextLine → Status → List ℕ → Type 0
IsLastText m ls Ended text = AnswersCommands m Ended ls text
IsLastText m ls Stopped text = AnswersCommands m Stopped ls text
IsLastText m ls NetRefused text = EndsRefused m ls text

-- what it writes on the net of these lines, where another net comes behind: the answers up to `new`, or the first fault of
-- the net text in a session that then goes on with another
pub data LeadsOn (m : Mode) (ls : List TextLine) : List ℕ → List TextLine → Type 0 where
  renewed : {s : Start} {text : List ℕ} {behind : List TextLine} → Begins ls s → AnswersToNew s m initial (command_lines ls) text behind → LeadsOn m ls text behind
  retried : {text : List ℕ} → m.retries ≡ true → has_bar ls ≡ true → NamesFirst ls text → LeadsOn m ls text (command_lines ls)

-- what is written on one net
abbrev pub IsNetText : Mode → List TextLine → NetEnd → Option (List ℕ) → List ℕ → Type 0
IsNetText m ls (Over status) left text = IsLastText m ls status text
IsNetText m ls Another left text = IsSomeAnd left (λ rest. LeadsOn m ls text (lines rest))

-- what a session of this mode writes over these lines and ends so: on one net after the other
pub data IsTextOver (m : Mode) : List TextLine → Status → List ℕ → Type 0 where
  once : {ls : List TextLine} {status : Status} {text : List ℕ} → IsLastText m ls status text → IsTextOver m ls status text
  onward : {ls behind : List TextLine} {status : Status} {text rest : List ℕ} → LeadsOn m ls text behind → IsTextOver m behind status rest
      → IsTextOver m ls status (text ++ rest)

-- the text of a session of this mode with this input that ends so
abbrev pub IsSessionText : Mode → List ℕ → Status → List ℕ → Type 0
IsSessionText m input status text = IsTextOver m (lines input) status text

-- it was written
abbrev pub Writes : Mode → List ℕ → Status → Option (List ℕ) → Option (List ℕ) → Type 0
Writes m input status old new = (text : List ℕ) × IsSessionText m input status text × Appends old new text

-- what is written on one net was
abbrev pub WritesNet : Mode → List ℕ → NetEnd → Option (List ℕ) → Option (List ℕ) → Option (List ℕ) → Type 0
WritesNet m input end left old new = (text : List ℕ) × IsNetText m (lines input) end left text × Appends old new text

-- the answers to the first demands of these lines, and then a front of the next echo, or all of it and a front of the reply
pub data AreBegun (s : Start) (m : Mode) (st : State) (ls : List TextLine) : List ℕ → Type 0 where
  echoing : {answers : List ℕ} {now : State} {between : List TextLine} (front behind : List ℕ) → AreAnswered s m st ls answers now between
      → echoed m between ≡ front ++ behind → AreBegun s m st ls (answers ++ front)
  replying : {before : List ℕ} (front behind : List ℕ) → AnswersNext s m st ls before (front ++ behind) → AreBegun s m st ls (before ++ front)

-- What a session over these lines that ends in a fault has written: nothing, a front of the line that names the first fault of
-- the net text, or the answers to its first commands and a front of what comes next; or what leads on to another net, and so
-- on over the lines behind.
pub data IsBegunOver (m : Mode) : List TextLine → List ℕ → Type 0 where
  nothing : {ls : List TextLine} → IsBegunOver m ls []
  naming : {ls : List TextLine} {text : List ℕ} (behind : List ℕ) → NamesFirst ls (text ++ behind) → IsBegunOver m ls text
  answering : {ls : List TextLine} {s : Start} {text : List ℕ} → Begins ls s → AreBegun s m initial (command_lines ls) text → IsBegunOver m ls text
  beyond : {ls behind : List TextLine} {text rest : List ℕ} → LeadsOn m ls text behind → IsBegunOver m behind rest → IsBegunOver m ls (text ++ rest)

-- what a session with this input that ends in a fault has written
abbrev pub IsBegun : Mode → List ℕ → List ℕ → Type 0
IsBegun m input text = IsBegunOver m (lines input) text
