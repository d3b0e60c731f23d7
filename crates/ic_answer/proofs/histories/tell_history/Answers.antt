-- The history leads to the machine's state.
use Rattle.std.proofs.Common.{◌≡◌, ℕ, Vec, Global, ◌++◌, length, sym, ap, subst, ◌∙◌}
use Rattle.std.specs.Prelude.{codes}
use Rattle.std.specs.Fmt.{decimal}
use Rattle.ic_command.specs.declared.question.Question.TheVariants.{History}
use Rattle.ic_answer.specs.BenchQuestions.{Informs, history}
use Rattle.ic_answer.proofs.HistoryLines.{history_put}
use Rattle.ic_answer.proofs.histories.tell_history.Goals as goal

pub returns : goal.returns
returns g c = λ st at.
    let head : c.into_bytes-text.result.items ≡ codes "history " ++ (decimal c.len.result ++ codes "\n") = ap (λ (w : Vec ℕ Global). w.items) c.into_bytes-text.ensures.value ∙ c.in_ok-format.ensures.ok in
    let count : c.len.result ≡ length c.deref.result.now = c.len.ensures ∙ sym c.deref.ensures.len in
    let text = history_put c.args.bench.now.lines c.deref.result.now c.len.result c.into_bytes-text.result.items c.push_lines.new.text.items head count (c.deref.ensures.value ∙ c.in_ok-lines.ensures) c.in_ok-push_lines.ensures in
    subst (λ t. Informs c.args.bench.now.start st History t) (sym text) (history at.history)
