use Rattle.std.proofs.Common.{◌≡◌, ◌≢◌, ◌+◌, ◌*◌, ◌%◌, ◌∙◌, ap, arith}
use Rattle.ic_name.specs.Names.{depth}
use Rattle.ic_names.specs.Blocks.{block_of}
use Rattle.ic_names.proofs.Blocks.{block_below, block-child_at, block-child_behind}
use Rattle.ic_names.proofs.block.Block.child.Goals as goal

pub returns-then-depth-eq0 : goal.returns-then-depth-eq0
returns-then-depth-eq0 c n is deep e =
    let at : depth n % 32 ≡ 0 = omega (arith, deep, c.if-depth-eq0.true) in
    c.from.ensures ∙ block-child_at n c.args.digit at

pub overflow_mul-result : goal.overflow_mul-result
overflow_mul-result c =
    let block = c.requires.block in
    let below = block_below block.0 block.1 (λ at. c.if-depth-eq0.false (omega (arith, at, block.2))) in
    omega (arith, block.3)

pub overflow_add-result : goal.overflow_add-result
overflow_add-result c =
    let block = c.requires.block in
    let below = block_below block.0 block.1 (λ at. c.if-depth-eq0.false (omega (arith, at, block.2))) in
    omega (arith, block.3, c.from-2.ensures, c.requires.small)

pub returns : goal.returns
returns c n is deep e =
    let behind : depth n % 32 ≢ 0 = λ at. c.if-depth-eq0.false (omega (arith, at, deep)) in
    ap (λ b. 4 * b + c.from-2.result) e ∙ ap (λ d. 4 * block_of n + d) c.from-2.ensures ∙ block-child_behind n c.args.digit behind
