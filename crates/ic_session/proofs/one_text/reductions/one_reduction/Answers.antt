use Rattle.ic_session.proofs.OneNormalText as lemmas
use Rattle.ic_session.proofs.one_text.reductions.one_reduction.Goals as goal

pub returns-clause-text : goal.returns-clause-text
returns-clause-text c = lemmas.one_text

pub returns-clause-net : goal.returns-clause-net
returns-clause-net c = lemmas.one_net

pub returns-clause-journal : goal.returns-clause-journal
returns-clause-journal c = lemmas.one_journal_text
