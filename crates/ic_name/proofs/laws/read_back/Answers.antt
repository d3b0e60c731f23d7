use Rattle.ic_name.proofs.NameAnswers.{same_text, reads_back}
use Rattle.ic_name.proofs.laws.read_back.Goals as goal

pub returns-clause-one : goal.returns-clause-one
returns-clause-one c = same_text

pub returns-clause-back : goal.returns-clause-back
returns-clause-back c = reads_back
