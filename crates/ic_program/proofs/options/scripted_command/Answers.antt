use Rattle.std.proofs.Common.{rules, ◌≡◌, [], sym, subst}
use Rattle.std.specs.List.{All}
use Rattle.std.proofs.lemmas.List.Elements.{All-nil}
use Rattle.std.proofs.lemmas.Result.{IfOk-weaker}
use Rattle.clap.specs.Words.{IsPlain, IsPlainArg, args_of}
use Rattle.clap.proofs.CallerLemmas.{added_plain}
use Rattle.ic_program.proofs.options.scripted_command.Goals as goal

pub returns-clause-plain : goal.returns-clause-plain
returns-clause-plain c =
    let none : args_of c.after_help.result ≡ [] = search rules in
    let bare : IsPlain c.after_help.result = (subst (All IsPlainArg) (sym none) (All-nil IsPlainArg), search rules) in
    let one = added_plain c.after_help.result c.in_ok-arg.field-0 c.workers_argument.result c.in_ok-arg.ensures bare c.workers_argument.ensures.plain.0 in
    let two = added_plain c.in_ok-arg.field-0 c.in_ok-arg-2.field-0 c.budget_argument.result c.in_ok-arg-2.ensures one c.budget_argument.ensures.plain.0 in
    IfOk-weaker c.arg-3.result _ _ (λ command added. added_plain c.in_ok-arg-2.field-0 command c.explain_argument.result added two c.explain_argument.ensures.plain.0) c.arg-3.ensures
