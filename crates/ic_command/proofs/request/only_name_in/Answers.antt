use Rattle.std.proofs.Common.{rules, ◌≡◌, [], ◌∷◌}
use Rattle.ic_command.specs.Words.{words}
use Rattle.ic_command.proofs.MarksAsked.{no_only_name}
use Rattle.ic_command.proofs.request.only_name_in.Goals as goal

pub returns-in_default : goal.returns-in_default
returns-in_default c = no_only_name (words c.args.line.now) (λ w h. let none = c.in_default.ensures in cc)

pub returns-then-is_some : goal.returns-then-is_some
returns-then-is_some c = no_only_name (words c.args.line.now) (λ w h. search rules)

pub returns : goal.returns
returns c =
    let whole : words c.args.line.now ≡ c.in-Some.word.now ∷ [] = search rules in
    search rules
