use Rattle.std.proofs.Common.{sym, ap, ◌∙◌, subst}
use Rattle.ic_names.specs.Known.{names_told, AreTold}
use Rattle.ic_names.proofs.KnownOrigins.{names_told-push, told_push}
use Rattle.ic_names.proofs.known.KnownNames.push.Goals as goal

pub invariant_of-self-2 : goal.invariant_of-self-2
invariant_of-self-2 c =
    let before = rw (← c.self.view_is) at c.requires in
    subst (λ os. AreTold os) (sym c.in_ok-push.ensures.items) (told_push c.self.inside.origins.items c.args.origin c.self.invariant before)

pub returns : goal.returns
returns c = rw (← c.self.view_is) (ap (λ os. names_told os) c.in_ok-push.ensures.items ∙ names_told-push c.self.inside.origins.items c.args.origin)
