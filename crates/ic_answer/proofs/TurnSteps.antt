-- TurnsByCommand: answers that change nothing, and answers of one step of the machine.
use Rattle.std.proofs.Common.{◌≡◌, ℕ, ◌<◌, List, refl, sym, subst}
use Rattle.ic_name.specs.declared.limits.TheConstants.{MAX_LINES}
use Rattle.ic_name.specs.declared.lines.Call.{Call}
use Rattle.ic_name.specs.declared.lines.Reply.{Reply}
use Rattle.ic_theory.specs.Machine.{State, MachineStep}
use Rattle.ic_journal.specs.Views.{BenchView}
use Rattle.ic_journal.specs.Benches.{IsAt, IsBench}
use Rattle.ic_journal.specs.Calls.{Steps, Stays}
use Rattle.ic_journal.proofs.BenchSteps.{still_at, line_left}
use Rattle.ic_command.specs.declared.command.Command.{Command}
use Rattle.ic_answer.specs.declared.refused.Refused.TheVariants as refused
use Rattle.ic_answer.specs.CommandReplies.{RepliesToCommand, MayWant, memory}
use Rattle.ic_answer.specs.Texts.{refusal_text}
use Rattle.ic_answer.specs.Turns.{Tells, TurnsByCommand}

-- what is told changes nothing
pub told : (v : BenchView) (c : Command) (text : List ℕ) → Tells v c text → TurnsByCommand v c text v
told v c text tells = record { start = refl; replies = λ st at. (st, tells st at, at) }

-- and is told of the same bench
pub told_same : (old new : BenchView) (c : Command) (text : List ℕ) → new ≡ old → Tells old c text → TurnsByCommand old c text new
told_same old new c text same tells = subst (λ (v : BenchView). TurnsByCommand old c text v) (sym same) (told old c text tells)

-- where memory is wanting, a bench may stay
pub stays_for_memory : (old new : BenchView) (c : Command) → MayWant c → Stays old new → TurnsByCommand old c (refusal_text refused.Memory) new
stays_for_memory old new c want stays = record {
  start = stays.same.start;
  replies = λ st at. (st, memory want, still_at old new stays st at);
}

-- a command that asks for something may be refused for memory
pub tells_memory : (v : BenchView) (c : Command) → MayWant c → Tells v c (refusal_text refused.Memory)
tells_memory v c want = λ st at. memory want

-- one step of the machine is a turn, where its answer is the reply
pub stepped : (old new : BenchView) (c : Command) (text : List ℕ) (call : Call) (answer : Reply) → IsBench new → Steps old call answer new
    → ((st next : State) → IsAt old st → st.lines < MAX_LINES → MachineStep old.start st call answer next → RepliesToCommand old.start st c text next) → TurnsByCommand old c text new
stepped old new c text call answer bench steps replies = record {
  start = steps.start;
  replies = λ st at. (let step = steps.step st at in (step.0, replies st step.0 at (line_left old new call answer bench steps st at) step.1, step.2));
}
