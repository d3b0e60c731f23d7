-- How a session is run, what its lines ask for then, and what is answered.
use Rattle.std.specs.Prelude.{◌≡◌, ◌<◌, ◌&&◌, ℕ, min, nat_eq, codes, Bool, true, false, List, ◌∷◌, Option, Some, None, [], IsSomeAnd}
use Rattle.std.specs.List.{starts_with}
use Rattle.ic_theory.specs.Starts.{Start}
use Rattle.ic_command.specs.declared.question.Question.{Question}
use Rattle.ic_command.specs.declared.command.Command.TheVariants.{Reduce}
use Rattle.ic_command.specs.declared.request.Request.{Request}
use Rattle.ic_command.specs.declared.request.Request.TheVariants.{Bench}
use Rattle.ic_command.specs.Questions.{IsNew, IsQuestion, IsQuit}
use Rattle.ic_command.specs.Requests.{within}
use Rattle.ic_desk.specs.Desks.{State}
use Rattle.ic_desk.specs.ManyWorkers.{RepliesWith}
use Rattle.ic_desk.specs.Questions.{Tells}
use Rattle.ic_desk.specs.Views.{DeskView, IsDeskAt}
use Rattle.ic_work.specs.declared.sweep_size.SweepSize.{SweepSize}
use Rattle.ic_session.specs.declared.demand.Demand.{Demand}
use Rattle.ic_session.specs.declared.demand.Demand.TheVariants as demand
use Rattle.ic_session.specs.declared.mode.Mode.{Mode}
use Rattle.ic_session.specs.declared.next_demand.NextDemand.{NextDemand}
use Rattle.ic_session.specs.declared.next_demand.NextDemand.TheVariants as next
use Rattle.ic_session.specs.InputLines.{TextLine, lines}
use Rattle.ic_session.specs.NextRequest.{Takes}

-- a session of so many workers and this budget that only answers, to the end
abbrev pub plain : ℕ → ℕ → Mode
plain workers budget = record { workers = workers; budget = budget; explains = false; stops = false; echoes = false; retries = false }

-- the line ends the session
abbrev pub Quits : Mode → List ℕ → Type 0
Quits m line = (m.explains ≡ true) × IsQuit line

-- the line ends what the session does with one net, and another net comes behind it
abbrev pub Renews : Mode → List ℕ → Type 0
Renews m line = (m.explains ≡ true) × IsNew line

-- the first of these lines does, and the others are behind it
pub data RenewsAt (m : Mode) : List TextLine → List TextLine → Type 0 where
  renews : {line : TextLine} {ls : List TextLine} → Renews m line.bytes → RenewsAt m (line ∷ ls) ls

-- nothing more is answered: no line is left, or the first of them ends the session
pub data IsDone (m : Mode) : List TextLine → Type 0 where
  no_line : IsDone m []
  quits : {line : TextLine} {ls : List TextLine} → Quits m line.bytes → IsDone m (line ∷ ls)

-- What the first of these lines asks for, with the lines that it takes behind it, and the lines that are left: a question
-- where the session explains itself and the line asks one, and else a request, if the line ends neither the session nor
-- what it does with this net.
pub data TakesDemand (m : Mode) : List TextLine → Demand → List TextLine → Type 0 where
  asks : {line : TextLine} {ls : List TextLine} {q : Question} → m.explains ≡ true → IsQuestion line.bytes q → TakesDemand m (line ∷ ls) (demand.Asks q) ls
  requests : {line : TextLine} {ls left : List TextLine} {r : Request} → (m.explains ≡ true → (q : Question) → ¬ (IsQuestion line.bytes q)) → ¬ (Quits m line.bytes) → ¬ (Renews m line.bytes) → Takes (line ∷ ls) r left
      → TakesDemand m (line ∷ ls) (demand.Requests r) left

-- the question of a line in such a session, if it asks one
abbrev pub IsQuestionAt : Mode → List ℕ → Option Question → Type 0
IsQuestionAt m line (Some q) = (m.explains ≡ true) × IsQuestion line q
IsQuestionAt m line None = m.explains ≡ true → (q : Question) → ¬ (IsQuestion line q)

-- the next demand was taken, and the lines behind it are left; or another net comes, in the lines that are left; or nothing
-- more is answered
abbrev pub TakesNext : Mode → NextDemand → List ℕ → Option (List ℕ) → Type 0
TakesNext m (next.Demand d) old new = IsSomeAnd new (λ left. TakesDemand m (lines old) d (lines left))
TakesNext m next.Renewal old new = IsSomeAnd new (λ left. RenewsAt m (lines old) (lines left))
TakesNext m next.Done old new = IsDone m (lines old)

-- the answer to a demand, and the state after it
pub data Gives (m : Mode) (s : Start) (st : State) : Demand → List ℕ → State → Type 0 where
  replied : {r : Request} {text : List ℕ} {next : State} → RepliesWith m.workers s st (within m.budget r) text next → Gives m s st (demand.Requests r) text next
  told : {q : Question} {text : List ℕ} {next : State} → Tells s st q text next → Gives m s st (demand.Asks q) text next

-- the sweep by which a session of this mode meets a demand: by two workers or more, as many as it has, and of as many events as
-- it is asked for within its budget
pub record IsSweepFor (m : Mode) (d : Demand) (size : SweepSize) : Type 0 where
  pub asked : ℕ
  pub demanded : d ≡ demand.Requests (Bench (Reduce asked))
  pub workers : size.workers ≡ m.workers
  pub several : 1 < size.workers
  pub budget : size.budget ≡ min m.budget asked

-- the reply refuses what was asked for
abbrev pub is_refusal : List ℕ → Bool
is_refusal reply = starts_with nat_eq reply (codes "refused ")

-- the session ends with this reply
abbrev pub stops_at : Mode → List ℕ → Bool
stops_at m reply = m.stops && is_refusal reply

-- the answer to a demand, and the desk after it
pub record TurnsIn (m : Mode) (old : DeskView) (d : Demand) (text : List ℕ) (new : DeskView) : Type 0 where
  pub start : new.bench.start ≡ old.bench.start
  pub gives : (st : State) → IsDeskAt old st → (next : State) × Gives m old.bench.start st d text next × IsDeskAt new next
