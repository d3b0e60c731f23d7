use Rattle.std.proofs.Common.{◌≢◌, List, IfNone, subst}
use Rattle.ic_path.specs.Orders.{IsIn}
use Rattle.ic_roster.specs.Rosters.{Stander}
use Rattle.ic_name.specs.Events.{pair}
use Rattle.ic_journal.proofs.bench.Bench.event.Goals as goal

pub returns-clause-absent : goal.returns-clause-absent
returns-clause-absent g c = rw (← c.self.view_is, ← c.bare.ensures) (subst (λ (xs : List Stander). IfNone c.find_event.result ((x : Stander) → IsIn x xs → pair x.event ≢ c.args.name.now)) c.roster.ensures.events c.find_event.ensures.absent)
