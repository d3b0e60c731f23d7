-- What a desk tells that is asked a question.
use Rattle.std.specs.Prelude.{◌≡◌, ℕ, List, ◌++◌, length, codes}
use Rattle.std.specs.Fmt.{decimal}
use Rattle.std.specs.List.{flat_map}
use Rattle.ic_name.specs.Events.{Event, pair}
use Rattle.ic_path.specs.Orders.{Alike}
use Rattle.ic_theory.specs.Starts.{Start}
use Rattle.ic_theory.specs.Machine as machine
use Rattle.ic_theory.specs.Machine.{events}
use Rattle.ic_journal.specs.Reducing.{IsLeastActive, IsNormal}
use Rattle.ic_command.specs.declared.command.Command.TheVariants.{Fire}
use Rattle.ic_command.specs.declared.help.TheConstants.{HELP}
use Rattle.ic_command.specs.declared.question.Question.{Question}
use Rattle.ic_command.specs.declared.question.Question.TheVariants.{Marks, Help, Step, Steps, Unstep}
use Rattle.ic_command.specs.declared.request.Request.TheVariants.{Bench}
use Rattle.ic_answer.specs.BenchQuestions.{Informs}
use Rattle.ic_answer.specs.Texts.{refusal_text}
use Rattle.ic_answer.specs.declared.refused.Refused.TheVariants.{NotActive, Memory}
use Rattle.ic_desk.specs.Desks.{Noted, State}
use Rattle.ic_desk.specs.Replies.{RepliesToRequest}
use Rattle.ic_answer.specs.Stepped.{StepsOften}
use Rattle.ic_answer.specs.Unstepped.{Unsteps}
use Rattle.ic_desk.specs.Views.{DeskView, IsDeskAt}

-- the name of a mark, and how many events it has
abbrev pub mark_line : Noted → List ℕ
mark_line x = x.name ++ codes " " ++ decimal (length x.events) ++ codes "\n"

-- how many marks there are, and which
abbrev pub marks_text : List Noted → List ℕ
marks_text xs = codes "marks " ++ decimal (length xs) ++ codes "\n" ++ flat_map mark_line xs

-- What is told in answer to a question, and the state after it: the same, but for a step, which fires the active pair with
-- the least lead, for many of them, and for an unstep, which undoes what was fired last.
pub data Tells (s : Start) (st : State) : Question → List ℕ → State → Type 0 where
  of_bench : {q : Question} {text : List ℕ} → Informs s st.bench q text → Tells s st q text st
  marks : {xs : List Noted} → Alike xs st.marks → Tells s st Marks (marks_text xs) st
  help : Tells s st Help HELP.now st
  stepped : {e : Event} {text : List ℕ} {next : State} → IsLeastActive s (events st.bench) e → RepliesToRequest s st (Bench (Fire (pair e))) text next → Tells s st Step text next
  nothing_active : IsNormal s (events st.bench) → Tells s st Step (refusal_text NotActive) st
  stepped_often : {most : ℕ} {text : List ℕ} {next : machine.State} → StepsOften s st.bench most text next → Tells s st (Steps most) text (record st { bench = next })
  unstepped : {most : ℕ} {text : List ℕ} {next : machine.State} → Unsteps s st.bench most text next → Tells s st (Unstep most) text (record st { bench = next })
  memory : {q : Question} → Tells s st q (refusal_text Memory) st

-- the answer to a question, and the desk after it
pub record Told (old : DeskView) (q : Question) (text : List ℕ) (new : DeskView) : Type 0 where
  pub start : new.bench.start ≡ old.bench.start
  pub tells : (st : State) → IsDeskAt old st → (next : State) × Tells old.bench.start st q text next × IsDeskAt new next
