use Rattle.std.proofs.Common.{ap, sym, ◌∙◌}
use Rattle.ic_answer.specs.Ends.{end_text}
use Rattle.ic_answer.proofs.ReducingReplies.{unfired_is}
use Rattle.ic_answer.proofs.reducing.end_answer.Goals as goal

pub returns-then-fired-eq0-clause-answer : goal.returns-then-fired-eq0-clause-answer
returns-then-fired-eq0-clause-answer c = unfired_is c.args.end ∙ sym (ap (λ n. end_text n c.args.end) c.if-fired-eq0.true)
