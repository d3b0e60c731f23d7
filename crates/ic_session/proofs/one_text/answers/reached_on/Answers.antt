use Rattle.ic_session.proofs.Reaching as lemmas
use Rattle.ic_session.proofs.one_text.answers.reached_on.Goals as goal

pub returns : goal.returns
returns c = lemmas.reached_on
