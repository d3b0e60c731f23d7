use Rattle.std.proofs.Common.{List, subst}
use Rattle.ic_path.specs.Orders.{IsIn}
use Rattle.ic_path.proofs.Picks.{none_in}
use Rattle.ic_desk.specs.Views.{NamedView}
use Rattle.ic_desk.proofs.desk.Desk.over.Goals as goal

pub invariant_of-result : goal.invariant_of-result
invariant_of-result g c = λ x i. absurd (none_in (subst (λ (xs : List NamedView). IsIn x xs) c.new.ensures.items i))
