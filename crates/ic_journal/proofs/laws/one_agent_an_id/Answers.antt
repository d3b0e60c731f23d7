use Rattle.ic_journal.proofs.OneIds.{one_agent_an_id}
use Rattle.ic_journal.proofs.laws.one_agent_an_id.Goals as goal

pub returns : goal.returns
returns c = one_agent_an_id
