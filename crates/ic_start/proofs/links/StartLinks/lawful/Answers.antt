use Rattle.std.proofs.Common.{arith}
use Rattle.ic_start.proofs.LinkFacts.{numbered, as_many}
use Rattle.ic_start.proofs.links.StartLinks.lawful.Goals as goal

pub returns-clause-numbered : goal.returns-clause-numbered
returns-clause-numbered c = rw (← c.self.view_is) (numbered 0 c.self.inside.ends.items)

pub returns-clause-few : goal.returns-clause-few
returns-clause-few c = rw (← c.self.view_is) (omega (arith, c.self.invariant, as_many 0 c.self.inside.ends.items))
