use Rattle.ic_journal.proofs.bench.Bench.event_led_at.Goals as goal

pub returns-clause-absent : goal.returns-clause-absent
returns-clause-absent g c = rw (← c.self.view_is) (rw (c.roster.ensures.events, c.roster.ensures.names, c.bare.ensures) at c.led_by.ensures.absent)
