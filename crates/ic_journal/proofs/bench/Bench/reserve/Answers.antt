use Rattle.ic_journal.proofs.KeptBenches.{keeps_self, same_kept, same_stays}
use Rattle.ic_journal.proofs.bench.Bench.reserve.Goals as goal
use Rattle.ic_set.proofs.Admissions.{same_self}

pub invariant_of-self-2 : goal.invariant_of-self-2
invariant_of-self-2 g c = same_kept c.self.inside.set c.self.inside.set c.self.inside.history c.reserve.new.self c.self.invariant (same_self _) (keeps_self _) c.reserve.ensures.lines c.reserve.ensures.few

pub returns : goal.returns
returns g c = rw (← c.self.view_is) (same_stays c.self.inside.set c.self.inside.set c.self.inside.history c.reserve.new.self c.self.invariant (same_self _) (keeps_self _) c.reserve.ensures.lines c.reserve.ensures.more, c.in-Ok.ensures.room)
