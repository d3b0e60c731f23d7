-- Reductions that end since no pair is active, as a session is told of them.
use Rattle.std.specs.Prelude.{◌≡◌, ℕ, List, codes}
use Rattle.ic_theory.specs.Starts.{Start}
use Rattle.ic_command.specs.declared.command.Command.TheVariants.{Reduce}
use Rattle.ic_command.specs.declared.request.Request.TheVariants.{Bench}
use Rattle.ic_answer.specs.Texts.{reduced_text}
use Rattle.ic_desk.specs.Desks.{State}
use Rattle.ic_desk.specs.ManyWorkers.{RepliesWith}

-- a `reduce` by so many workers was answered by this text, which says that no pair is active
pub record EndsNormally (s : Start) (workers most : ℕ) (st : State) (text : List ℕ) (next : State) : Type 0 where
  pub reply : RepliesWith workers s st (Bench (Reduce most)) text next
  pub fired : ℕ
  pub normal : text ≡ reduced_text fired (codes "normal")
