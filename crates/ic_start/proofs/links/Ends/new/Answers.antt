use Rattle.ic_start.proofs.LinkFacts.{end_back}
use Rattle.ic_start.proofs.links.Ends.new.Goals as goal

pub returns-clause-first : goal.returns-clause-first
returns-clause-first c = rw (c.number.ensures, c.port.ensures) (end_back c.args.a)

pub returns-clause-second : goal.returns-clause-second
returns-clause-second c = rw (c.number-2.ensures, c.port-2.ensures) (end_back c.args.b)
