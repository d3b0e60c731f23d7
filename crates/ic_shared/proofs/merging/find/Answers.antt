use Rattle.std.proofs.Common.{◌/◌, refl, sym, arith, below_more, true≢false}
use Rattle.ic_shared.specs.Passes.{column, columns}
use Rattle.ic_shared.proofs.Owned.{get_at, next_of}
use Rattle.ic_shared.proofs.merging.find.Goals as goal

pub loop-c-preserved : goal.loop-c-preserved
loop-c-preserved g c = λ ns.
    let pass = get_at c.args.passes.now (c.loop-c.c / 2) _ _ (omega arith) c.index-passes-c.is in
    let there = c.column_of.ensures ns c.args.passes.now c.index-passes-c.result pass in
    below_more _ _ (c.loop-c.invariant ns) (λ h. absurd (true≢false (sym ((c.if-has_number.ensures ns).1 (next_of (columns ns c.args.passes.now) c.args.cursors.now c.loop-c.c c.args.number _ there h)))))

pub returns-then-has_number-clause-some : goal.returns-then-has_number-clause-some
returns-then-has_number-clause-some g c = λ ns.
    let pass = get_at c.args.passes.now (c.loop-c.c / 2) _ _ (omega arith) c.index-passes-c.is in
    let there = c.column_of.ensures ns c.args.passes.now c.index-passes-c.result pass in
    (omega arith, (column ns c.index-passes-c.result c.column_of.result, there, (c.if-has_number.ensures ns).0 refl))

pub returns-clause-none : goal.returns-clause-none
returns-clause-none g c = λ ns p lt h. c.loop-c.invariant ns p (omega arith) h
