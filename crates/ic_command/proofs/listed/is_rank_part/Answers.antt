use Rattle.std.proofs.Common.{sym, subst}
use Rattle.std.specs.Prelude.{codes, IsTrue}
use Rattle.ic_command.specs.Listed.{IsRankPart}
use Rattle.ic_command.specs.Words.{words}
use Rattle.ic_command.proofs.WordsAsked.{is_text}
use Rattle.ic_command.proofs.WordsListed.{is_rank_part}
use Rattle.ic_command.proofs.listed.is_rank_part.Goals as goal

pub returns-in_ok-number_in : goal.returns-in_ok-number_in
returns-in_ok-number_in c =
    let word = is_text c.in-Some.word.now c.as_slice.result.now (codes "rank") c.eq.result c.eq.ensures c.as_slice.ensures c.if-eq.true in
    let part = is_rank_part c.in-Some.word.now (words c.in-Some.rest.now) (words c.args.behind.now) c.in-Some.ensures word c.in_ok-number_in.field-0 c.in_ok-number_in.ensures in
    subst (λ b. (IsTrue b → IsRankPart (words c.args.behind.now)) × (IsRankPart (words c.args.behind.now) → IsTrue b)) (sym c.is_some.ensures) part
