-- What an answer says of the bench that gives it.
use Rattle.std.specs.Prelude.{◌≡◌, ℕ, List}
use Rattle.ic_theory.specs.Machine.{State}
use Rattle.ic_journal.specs.Views.{BenchView}
use Rattle.ic_journal.specs.Benches.{IsAt}
use Rattle.ic_command.specs.declared.command.Command.{Command}
use Rattle.ic_answer.specs.CommandReplies.{RepliesToCommand}

-- the answer to a command that changes nothing
abbrev pub Tells : BenchView → Command → List ℕ → Type 0
Tells v c text = (st : State) → IsAt v st → RepliesToCommand v.start st c text st

-- the answer to a command, and the bench after it
pub record TurnsByCommand (old : BenchView) (c : Command) (text : List ℕ) (new : BenchView) : Type 0 where
  pub start : new.start ≡ old.start
  pub replies : (st : State) → IsAt old st → (next : State) × RepliesToCommand old.start st c text next × IsAt new next
