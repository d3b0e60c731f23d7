use Rattle.std.proofs.Common.{arith}
use Rattle.ic_trace.proofs.ReadFirings.{noted_after}
use Rattle.ic_trace.proofs.reading.note.Goals as goal

pub numbers_of_causes-requires-clause-stands : goal.numbers_of_causes-requires-clause-stands
numbers_of_causes-requires-clause-stands c = (c.args.event, c.requires.stands, c.requires.name)

pub rank_above-rank-requires-clause-inside : goal.rank_above-rank-requires-clause-inside
rank_above-rank-requires-clause-inside c = rw (c.deref.ensures.value, c.deref-2.ensures.value) c.in_ok-causes.ensures.numbers_are.inside

pub rank_above-rank-requires-clause-low : goal.rank_above-rank-requires-clause-low
rank_above-rank-requires-clause-low c = rw c.deref.ensures.value c.requires.low

pub rank_above-rank-requires-clause-few : goal.rank_above-rank-requires-clause-few
rank_above-rank-requires-clause-few c = let noted = c.requires.noted in rw c.deref.ensures.value (omega (arith, noted))

pub returns : goal.returns
returns c = noted_after c.args.past.now c.args.name.now c.args.table.now.known.items
    (record { event = c.args.event; causes = c.in_ok-causes.causes; rank = c.rank_above-rank.result }) c.add.new.self c.add.result
    c.in_ok-causes.ensures (rw (c.deref.ensures.value, c.deref-2.ensures.value) at c.rank_above-rank.ensures) c.add.ensures.number c.add.ensures.added c.add.ensures.renumbered
