use Rattle.std.proofs.Common.{◌/◌, arith, below_more}
use Rattle.ic_shared.specs.Passes.{column, columns}
use Rattle.ic_shared.proofs.Owned.{get_at, next_of}
use Rattle.ic_shared.proofs.merging.behind.Goals as goal

pub loop-c-preserved : goal.loop-c-preserved
loop-c-preserved g c = λ ns.
    let pass = get_at c.args.passes.now (c.loop-c.c / 2) _ _ (omega arith) c.index-passes-c.is in
    let there = c.column_of.ensures ns c.args.passes.now c.index-passes-c.result pass in
    below_more _ _ (c.loop-c.invariant ns) (λ n h. c.in-None.ensures ns n (next_of (columns ns c.args.passes.now) c.args.cursors.now c.loop-c.c n _ there h))

pub returns-in-Some-clause-some : goal.returns-in-Some-clause-some
returns-in-Some-clause-some g c = λ ns.
    let pass = get_at c.args.passes.now (c.loop-c.c / 2) _ _ (omega arith) c.index-passes-c.is in
    let there = c.column_of.ensures ns c.args.passes.now c.index-passes-c.result pass in
    ((c.in-Some.ensures ns).0, (c.loop-c.c, (column ns c.index-passes-c.result c.column_of.result, there, (c.in-Some.ensures ns).1)))

pub returns-clause-none : goal.returns-clause-none
returns-clause-none g c = λ ns p lt. c.loop-c.invariant ns p (omega arith)
