use Rattle.std.proofs.Common.{◌≡◌, ◌∷◌, rules}
use Rattle.std.proofs.lemmas.Result.{IfOk-weaker}
use Rattle.ic_command.specs.Words.{words}
use Rattle.ic_command.proofs.WordsListed.{lists_in}
use Rattle.ic_command.proofs.listed.listed_in.Goals as goal

pub returns : goal.returns
returns c =
    let whole : words c.args.body.now ≡ c.in-Some.first.now ∷ c.in-Some-next_word.second.now ∷ words c.in-Some-next_word.behind.now = search rules in
    IfOk-weaker c.event_of.result _ _ (lists_in c.in-Some.first.now c.in-Some-next_word.second.now (words c.in-Some-next_word.behind.now) (words c.args.body.now) whole (c.in_ok-is_rank_part.ensures.0 c.if-not-branch.false)) c.event_of.ensures
