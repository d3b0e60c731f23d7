use Rattle.std.proofs.Common.{arith}
use Rattle.ic_start.proofs.TextFacts.{as_many}
use Rattle.ic_start.proofs.texts.Texts.len.Goals as goal

pub returns : goal.returns
returns c = rw (← c.self.view_is) (omega (arith, c.len.ensures, as_many c.self.inside.bytes.items 0 c.self.inside.ends.items))
