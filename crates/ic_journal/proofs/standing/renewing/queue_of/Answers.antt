use Rattle.ic_journal.proofs.standing.renewing.queue_of.Goals as goal

pub returns-clause-each : goal.returns-clause-each
returns-clause-each g c = λ e p h. c.put_all.ensures.led e p h (c.requires p (e, h))
