use Rattle.ic_work.proofs.Crews.{takes_in}
use Rattle.ic_work.proofs.crew.take_in.Goals as goal

pub returns-clause-first : goal.returns-clause-first
returns-clause-first g c = takes_in _ _ _ _ _ _ _ _ _ c.requires.first c.requires.guest c.join.ensures.same c.join.ensures.both c.push_reserved.ensures.items
