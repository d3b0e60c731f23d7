use Rattle.ic_text.proofs.Proper.{proper}
use Rattle.ic_text.proofs.grammar.laws.starts_are_proper.Goals as goal

pub returns : goal.returns
returns c = proper
