use Rattle.ic_journal.proofs.bench.Bench.born_pairs.Goals as goal

pub returns : goal.returns
returns g c = rw (← c.self.view_is, ← c.bare.ensures) c.born_pairs.ensures
