use Rattle.ic_claim.proofs.Consequences.{bounded_tickets}
use Rattle.ic_claim.proofs.laws.ticket_word_never_wraps.Goals as goal

pub returns : goal.returns
returns c = bounded_tickets
