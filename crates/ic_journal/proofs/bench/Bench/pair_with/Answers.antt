use Rattle.ic_journal.proofs.bench.Bench.pair_with.Goals as goal

pub returns-in_default-clause-absent : goal.returns-in_default-clause-absent
returns-in_default-clause-absent g c = rw (← c.self.view_is, ← c.bare.ensures) c.pair_with.ensures.absent
