-- What a desk answers where several workers may carry out a reduction.
use Rattle.std.specs.Prelude.{◌≡◌, ◌<◌, ℕ, List}
use Rattle.ic_theory.specs.Starts.{Start}
use Rattle.ic_theory.specs.Machine as machine
use Rattle.ic_journal.specs.declared.reducing.end.End.{End}
use Rattle.ic_work.specs.Sweeps.{IsSwept}
use Rattle.ic_command.specs.declared.command.Command.TheVariants.{Reduce}
use Rattle.ic_command.specs.declared.request.Request.{Request}
use Rattle.ic_command.specs.declared.request.Request.TheVariants.{Bench}
use Rattle.ic_answer.specs.Ends.{end_text}
use Rattle.ic_desk.specs.Desks.{State}
use Rattle.ic_desk.specs.Replies.{RepliesToRequest}
use Rattle.ic_desk.specs.Views.{DeskView, IsDeskAt}

-- The answer to what a line asks for, and the state after it, where there are so many workers: what one worker answers,
-- or, of two or more, what is told of a sweep.
pub data RepliesWith (workers : ℕ) (s : Start) (st : State) : Request → List ℕ → State → Type 0 where
  as_one : {r : Request} {text : List ℕ} {next : State} → RepliesToRequest s st r text next → RepliesWith workers s st r text next
  swept : {most n : ℕ} {end : End} {next : machine.State} → 1 < workers → IsSwept s st.bench most n end next
      → RepliesWith workers s st (Bench (Reduce most)) (end_text n end) (record st { bench = next })

-- the answer to what a line asks for, and the desk after it, where there are so many workers
pub record TurnsWith (workers : ℕ) (old : DeskView) (r : Request) (text : List ℕ) (new : DeskView) : Type 0 where
  pub start : new.bench.start ≡ old.bench.start
  pub replies : (st : State) → IsDeskAt old st → (next : State) × RepliesWith workers old.bench.start st r text next × IsDeskAt new next
