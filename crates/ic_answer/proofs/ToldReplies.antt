-- Answers to commands that change nothing: a text, or that memory is wanting.
use Rattle.std.proofs.Common.{◌≡◌, ℕ, List, [], Result, Ok, Err, IfOk, OnErr, Vec, Global, sym, subst}
use Rattle.std.specs.declared.alloc.AllocError.{AllocError}
use Rattle.ic_journal.specs.Views.{BenchView}
use Rattle.ic_command.specs.declared.command.Command.{Command}
use Rattle.ic_command.specs.declared.command.Command.TheVariants.{Nothing, Malformed}
use Rattle.ic_answer.specs.declared.refused.Refused.TheVariants as refused
use Rattle.ic_answer.specs.CommandReplies.{MayWant, nothing, malformed}
use Rattle.ic_answer.specs.declared.answer.Answer.{Answer}
use Rattle.ic_answer.specs.Texts.{answer_text, refusal_text}
use Rattle.ic_answer.specs.Turns.{Tells, TurnsByCommand}
use Rattle.ic_answer.proofs.TurnSteps.{told, tells_memory}

-- a command that is known to be another one
as_known : (v : BenchView) (c known : Command) (text : List ℕ) → c ≡ known → Tells v known text → TurnsByCommand v c text v
as_known v c known text same tells = subst (λ (d : Command). TurnsByCommand v d text v) (sym same) (told v known text tells)

-- no words have no answer
pub nothing_told : (v : BenchView) (c : Command) (text : List ℕ) → c ≡ Nothing → text ≡ [] → TurnsByCommand v c text v
nothing_told v c text same empty = as_known v c Nothing text same (λ st at. rw empty nothing)

-- what is no command is refused
pub malformed_told : (v : BenchView) (c : Command) → c ≡ Malformed → TurnsByCommand v c (refusal_text refused.Command) v
malformed_told v c same = as_known v c Malformed _ same (λ st at. malformed)

-- a text that is told, or that memory is wanting
pub text_told : (v : BenchView) (c known : Command) (text : List ℕ) (result : Result (Vec ℕ Global) AllocError)
    → c ≡ known → MayWant known
    → IfOk result (λ t. Tells v known t.items) → IfOk result (λ t. text ≡ t.items) → OnErr result (text ≡ refusal_text refused.Memory) → TurnsByCommand v c text v
text_told v c known text (Ok t) same want tells is wanting = as_known v c known text same (subst (λ (bytes : List ℕ). Tells v known bytes) (sym is) tells)
text_told v c known text (Err e) same want tells is wanting = as_known v c known text same (subst (λ (bytes : List ℕ). Tells v known bytes) (sym wanting) (tells_memory v known want))

-- an answer that is told, or that memory is wanting
pub answer_told : (v : BenchView) (c known : Command) (text : List ℕ) (result : Result Answer AllocError) → c ≡ known
    → MayWant known
    → IfOk result (λ a. Tells v known (answer_text a)) → IfOk result (λ a. text ≡ answer_text a) → OnErr result (text ≡ refusal_text refused.Memory) → TurnsByCommand v c text v
answer_told v c known text (Ok a) same want tells is wanting = as_known v c known text same (subst (λ (bytes : List ℕ). Tells v known bytes) (sym is) tells)
answer_told v c known text (Err e) same want tells is wanting = as_known v c known text same (subst (λ (bytes : List ℕ). Tells v known bytes) (sym wanting) (tells_memory v known want))
