use Rattle.ic_text.proofs.Spelling.{one_start}
use Rattle.ic_text.proofs.grammar.laws.texts_denote_one_start.Goals as goal

pub returns : goal.returns
returns c = one_start
