use Rattle.ic_session.proofs.SessionTexts as lemmas
use Rattle.ic_session.proofs.one_text.texts.one_text.Goals as goal

pub returns : goal.returns
returns c = lemmas.one_text
