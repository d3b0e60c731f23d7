use Rattle.std.proofs.Common.{◌≡◌, replicate, ap, arith, ◌∙◌}
use Rattle.ic_shared.specs.Passes.{empty_pass}
use Rattle.ic_shared.proofs.shared.share.Goals as goal

pub returns-clause-passes : goal.returns-clause-passes
returns-clause-passes g c =
    let all : c.loop-made.made ≡ c.args.passes = omega (arith, c.loop-made-test.false, c.loop-made.auto.made-end) in
    c.loop-made.invariant.2 ∙ ap (λ n. replicate n empty_pass) all
