use Rattle.std.proofs.Common.{refl, sym, ◌∙◌, arith, subst, ℕ}
use Rattle.ic_shared.specs.Agrees.{other_start, other_line, other_receipts}
use Rattle.ic_shared.proofs.Agreeing.{agrees}
use Rattle.ic_shared.specs.Settles.{WrongAt}
use Rattle.ic_shared.specs.Passes.{columns}
use Rattle.ic_shared.proofs.settling.compare.Goals as goal

pub returns-then-not-same-clause-err : goal.returns-then-not-same-clause-err
returns-then-not-same-clause-err g c = other_start c.lines-number.ensures (λ e. (let same = c.if-not-same.ensures.1 (c.start.ensures ∙ e) in cc))

pub returns-in-Some-clause-err : goal.returns-in-Some-clause-err
returns-in-Some-clause-err g c =
    other_line (sym c.start.ensures ∙ c.if-not-same.ensures.0 refl) c.in-Some.ensures.some.0 c.in-Some.ensures.some.1

pub returns-in-Ok-clause-ok : goal.returns-in-Ok-clause-ok
returns-in-Ok-clause-ok g c =
    agrees c.args.passes.now c.args.bench.now c.args.start.now c.args.lines.now c.len-base.result c.lines-number.result
    (sym c.start.ensures ∙ c.if-not-same.ensures.0 refl)
    c.len-base.ensures
    c.in-None.ensures.none
    c.lines-number.ensures
    (let counted = c.requires.counted in let based = c.len-base.ensures in omega arith)
    c.in-Ok.ensures.ok

pub returns-in-Err-clause-err : goal.returns-in-Err-clause-err
returns-in-Err-clause-err g c =
    other_receipts (sym c.start.ensures ∙ c.if-not-same.ensures.0 refl)
    (subst (λ (n : ℕ). WrongAt n c.args.bench.now.lines (columns c.args.bench.now.names c.args.passes.now) c.in-Err.wrong) c.len-base.ensures c.in-Err.ensures.err)
