use Rattle.ic_claim.proofs.Consequences.{distinct_tickets, counted_tickets}
use Rattle.ic_claim.proofs.laws.each_ticket_is_drawn_once.Goals as goal

pub returns-clause-distinct : goal.returns-clause-distinct
returns-clause-distinct c = distinct_tickets

pub returns-clause-counted : goal.returns-clause-counted
returns-clause-counted c = counted_tickets
