use Rattle.ic_journal.proofs.OneIds.{one_event_a_line}
use Rattle.ic_journal.proofs.laws.one_event_a_line.Goals as goal

pub returns : goal.returns
returns c = one_event_a_line
