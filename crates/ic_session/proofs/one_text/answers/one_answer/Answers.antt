use Rattle.ic_session.proofs.OneAnswer as lemmas
use Rattle.ic_session.proofs.one_text.answers.one_answer.Goals as goal

pub returns : goal.returns
returns c = lemmas.one_answer
