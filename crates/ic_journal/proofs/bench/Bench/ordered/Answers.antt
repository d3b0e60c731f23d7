use Rattle.ic_journal.proofs.bench.Bench.ordered.Goals as goal

pub ordered-requires-clause-standing : goal.ordered-requires-clause-standing
ordered-requires-clause-standing g c = rw (← c.self.view_is, ← c.bare.ensures) at c.requires.standing

pub returns : goal.returns
returns g c = rw (← c.self.view_is, ← c.bare.ensures) c.ordered.ensures
