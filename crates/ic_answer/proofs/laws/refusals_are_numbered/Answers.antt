use Rattle.ic_answer.proofs.NumberedLines as lines
use Rattle.ic_answer.proofs.laws.refusals_are_numbered.Goals as goal

pub returns : goal.returns
returns c = lines.numbered
