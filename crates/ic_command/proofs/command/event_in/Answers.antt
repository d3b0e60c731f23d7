use Rattle.std.proofs.Common.{◌≡◌, [], ◌∷◌, IfOk, sym, subst, rules}
use Rattle.ic_command.specs.Commands.{IsEventIn}
use Rattle.ic_command.specs.Words.{words}
use Rattle.ic_command.proofs.command.event_in.Goals as goal

pub returns : goal.returns
returns c =
    let whole : words c.args.line.now ≡ c.in-Some.first.now ∷ c.in-Some-next_word.second.now ∷ [] = search rules in
    subst (λ ws. IfOk c.event_of.result (λ event. IsEventIn ws event)) (sym whole) c.event_of.ensures
