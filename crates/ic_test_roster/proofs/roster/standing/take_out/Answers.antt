use Rattle.std.proofs.Common.{refl, subst}
use Rattle.ic_path.specs.Orders.{IsIn}
use Rattle.ic_path.proofs.Picks.{none_in}
use Rattle.ic_test_roster.proofs.roster.standing.take_out.Goals as goal

pub remove_event-requires : goal.remove_event-requires
remove_event-requires c = λ x i j. none_in (subst (λ ds. IsIn x.id ds) c.in-None.ensures.over (c.event_dependents.ensures.each x.id (x, i, refl, j)))
