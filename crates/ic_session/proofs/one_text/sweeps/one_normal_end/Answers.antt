use Rattle.ic_session.proofs.OneNormalEnd as lemmas
use Rattle.ic_session.proofs.one_text.sweeps.one_normal_end.Goals as goal

pub returns-clause-net : goal.returns-clause-net
returns-clause-net c = lemmas.one_net_text

pub returns-clause-journal : goal.returns-clause-journal
returns-clause-journal c = lemmas.one_journal_text

pub returns-clause-fired : goal.returns-clause-fired
returns-clause-fired c = lemmas.as_many_fired
