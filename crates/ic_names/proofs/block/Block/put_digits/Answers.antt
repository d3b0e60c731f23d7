use Rattle.std.proofs.Common.{rules, ◌≡◌, ◌+◌, ◌-◌, ◌*◌, ◌/◌, ◌<◌, ◌++◌, length, drop, refl, sym, subst, arith}
use Rattle.ic_names.proofs.PutDigits.{ArePut, none_put, one_put}
use Rattle.ic_names.proofs.block.Block.put_digits.Goals as goal

pub loop-at-init : goal.loop-at-init
loop-at-init c = record {
  low = omega (arith, c.requires.some);
  high = omega arith;
  same_length = refl;
  put = λ n is deep block. none_put n _ c.args.depth c.args.self.0 c.args.digits.now deep (omega (arith, deep)) block;
}

pub bounds-digits-at : goal.bounds-digits-at
bounds-digits-at c = omega (arith, c.requires.inside, c.loop-at.invariant.high, c.loop-at.invariant.same_length, c.loop-at-test.true)

pub loop-at-preserved : goal.loop-at-preserved
loop-at-preserved c =
    let first = (c.args.depth - 1) / 32 * 32 in
    let inside : c.loop-at.at - 1 < length c.loop-at.digits = omega (arith, c.requires.inside, c.loop-at.invariant.high, c.loop-at.invariant.same_length, c.loop-at-test.true) in
    let one : c.loop-at.at - 1 + 1 ≡ c.loop-at.at = omega (arith, c.loop-at-test.true) in
    record {
      low = omega (arith, c.loop-at-test.true);
      high = omega (arith, c.loop-at.invariant.high);
      same_length = search rules;
      put = λ n is deep block.
          one_put n first (c.loop-at.at - 1) c.args.depth c.loop-at.number c.loop-at.digits c.args.digits.now is (omega (arith, c.loop-at-test.true)) (omega (arith, c.loop-at-test.true, c.loop-at.invariant.high, deep)) inside
          (subst (λ k. ArePut n first k c.args.depth c.loop-at.number c.loop-at.digits c.args.digits.now) (sym one) (c.loop-at.invariant.put n is deep block));
    }

pub returns-clause-put : goal.returns-clause-put
returns-clause-put c n is deep block =
    let first = (c.args.depth - 1) / 32 * 32 in
    let at : c.loop-at.at ≡ first = omega (arith, c.loop-at-test.false, c.loop-at.invariant.low) in
    subst (λ k. drop k c.loop-at.digits ≡ drop k n.digits ++ drop c.args.depth c.args.digits.now) at (c.loop-at.invariant.put n is deep block).put
