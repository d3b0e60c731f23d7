use Rattle.std.proofs.Common.{arith}
use Rattle.ic_start.proofs.LinkFacts.{as_many}
use Rattle.ic_start.proofs.links.StartLinks.len.Goals as goal

pub returns : goal.returns
returns c = rw (← c.self.view_is) (omega (arith, c.len.ensures, as_many 0 c.self.inside.ends.items))
