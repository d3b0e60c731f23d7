use Rattle.ic_journal.proofs.bench.Bench.leads.Goals as goal

pub agents_in-requires-clause-each : goal.agents_in-requires-clause-each
agents_in-requires-clause-each g c = rw (c.bare.ensures, ← c.self-inside.view_is) c.self-inside.invariant.each
