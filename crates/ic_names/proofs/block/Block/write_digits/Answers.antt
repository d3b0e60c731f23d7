use Rattle.std.proofs.Common.{rules, ◌≡◌, ◌+◌, ◌-◌, ◌*◌, ◌/◌, ◌%◌, ◌<◌, ◌++◌, length, drop, refl, sym, subst, arith}
use Rattle.ic_name.specs.NameTexts.{digits_text}
use Rattle.ic_names.proofs.WrittenDigits.{AreWritten, none_written, one_written, dots_kept}
use Rattle.ic_names.proofs.block.Block.write_digits.Goals as goal

pub loop-at-init : goal.loop-at-init
loop-at-init c = record {
  low = omega (arith, c.requires.some);
  high = omega arith;
  same_length = refl;
  dots = c.requires.dots;
  put = λ n is deep block. none_written n _ c.args.depth c.args.self.0 c.args.text.now deep (omega (arith, deep)) block;
}

pub bounds-text-at : goal.bounds-text-at
bounds-text-at c = omega (arith, c.requires.inside, c.loop-at.invariant.high, c.loop-at.invariant.same_length, c.loop-at-test.true)

pub loop-at-preserved : goal.loop-at-preserved
loop-at-preserved c =
    let first = (c.args.depth - 1) / 32 * 32 in
    let inside : 2 * (c.loop-at.at - 1) + 1 < length c.loop-at.text = omega (arith, c.requires.inside, c.loop-at.invariant.high, c.loop-at.invariant.same_length, c.loop-at-test.true) in
    let one : c.loop-at.at - 1 + 1 ≡ c.loop-at.at = omega (arith, c.loop-at-test.true) in
    record {
      low = omega (arith, c.loop-at-test.true);
      high = omega (arith, c.loop-at.invariant.high);
      same_length = search rules;
      dots = dots_kept c.loop-at.text (c.loop-at.at - 1) (48 + c.loop-at.number % 4) c.loop-at.invariant.dots;
      put = λ n is deep block.
          one_written n first (c.loop-at.at - 1) c.args.depth c.loop-at.number c.loop-at.text c.args.text.now is (omega (arith, c.loop-at-test.true)) (omega (arith, c.loop-at-test.true, c.loop-at.invariant.high, deep)) inside c.loop-at.invariant.dots
          (subst (λ k. AreWritten n first k c.args.depth c.loop-at.number c.loop-at.text c.args.text.now) (sym one) (c.loop-at.invariant.put n is deep block));
    }

pub returns-clause-put : goal.returns-clause-put
returns-clause-put c n is deep block =
    let first = (c.args.depth - 1) / 32 * 32 in
    let at : c.loop-at.at ≡ first = omega (arith, c.loop-at-test.false, c.loop-at.invariant.low) in
    subst (λ k. drop (2 * k) c.loop-at.text ≡ digits_text (drop k n.digits) ++ drop (2 * c.args.depth) c.args.text.now) at (c.loop-at.invariant.put n is deep block).put
