use Rattle.ic_session.proofs.OneStep as lemmas
use Rattle.ic_session.proofs.one_text.answers.one_step.Goals as goal

pub returns : goal.returns
returns c = lemmas.one_step
