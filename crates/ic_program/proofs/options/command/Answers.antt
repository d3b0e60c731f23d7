use Rattle.std.proofs.lemmas.Result.{IfOk-weaker}
use Rattle.clap.proofs.CallerLemmas.{added_plain}
use Rattle.ic_program.proofs.options.command.Goals as goal

pub returns-clause-plain : goal.returns-clause-plain
returns-clause-plain c =
    let one = added_plain c.in_ok-scripted_command.field-0 c.in_ok-arg.field-0 c.stop_argument.result c.in_ok-arg.ensures c.in_ok-scripted_command.ensures.plain c.stop_argument.ensures.plain.0 in
    let two = added_plain c.in_ok-arg.field-0 c.in_ok-arg-2.field-0 c.echo_argument.result c.in_ok-arg-2.ensures one c.echo_argument.ensures.plain.0 in
    let three = added_plain c.in_ok-arg-2.field-0 c.in_ok-arg-3.field-0 c.interactive_argument.result c.in_ok-arg-3.ensures two c.interactive_argument.ensures.plain.0 in
    IfOk-weaker c.arg-4.result _ _ (λ command added. added_plain c.in_ok-arg-3.field-0 command c.files_argument.result added three c.files_argument.ensures.plain.0) c.arg-4.ensures
