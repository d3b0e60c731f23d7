use Rattle.std.proofs.Common.{refl, [], ◌∷◌, subst}
use Rattle.ic_command.specs.Commands.{IsNameIn}
use Rattle.ic_command.proofs.AgentsNamed.{names_event}
use Rattle.ic_command.proofs.command.event_of.Goals as goal

pub returns : goal.returns
returns c =
    let left = subst (IsNameIn c.args.first.now) c.in-Some.is c.in_ok-left.ensures in
    let right = subst (IsNameIn c.args.second.now) c.in-Some-2.is c.in_ok-right.ensures in
    names_event c.args.first.now c.args.second.now (c.args.first.now ∷ c.args.second.now ∷ []) c.in-Some.left c.in-Some-2.right c.of.result refl left.0 left.1 right.0 right.1 c.of.ensures.some c.of.ensures.pair
