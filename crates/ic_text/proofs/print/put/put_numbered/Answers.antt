use Rattle.std.proofs.Common.{◌≡◌, ◌∙◌, ◌∷◌, ◌++◌, ap, append-nil, arith, rules}
use Rattle.std.specs.Prelude.{decimal, if◌then◌else◌, is_ok}
use Rattle.std.proofs.lemmas.Fmt.{length-decimal-le}
use Rattle.ic_text.proofs.Underlined.{underlined}
use Rattle.ic_text.proofs.print.put.put_numbered.Goals as goal

pub write_digits-start-requires : goal.write_digits-start-requires
write_digits-start-requires c = let few = length-decimal-le 20 c.args.number (omega arith) (omega (arith, c.ranges.number.fits)) (omega (arith, c.ranges.number.fits)) in (omega (arith, few), omega arith)

pub overflow_sub-start : goal.overflow_sub-start
overflow_sub-start c = let few = length-decimal-le 20 c.args.number (omega arith) (omega (arith, c.ranges.number.fits)) (omega (arith, c.ranges.number.fits)) in omega (arith, few, c.write_digits-start.ensures.start)

pub returns : goal.returns
returns c =
    let out = c.args.out.now.items in
    let digits = c.write_digits-start in
    let few = length-decimal-le 20 c.args.number (omega arith) (omega (arith, c.ranges.number.fits)) (omega (arith, c.ranges.number.fits)) in
    let text = underlined (decimal c.args.number) digits.new.buf digits.result (omega (arith, few, digits.ensures.start)) digits.ensures.start digits.ensures.before (digits.ensures.written ∙ append-nil (decimal c.args.number)) in
    let written : c.extend_from_slice.new.self.items ≡ (if is_ok c.extend_from_slice.result then out ++ 95 ∷ decimal c.args.number else out) = c.extend_from_slice.ensures.items ∙ ap (λ t. if is_ok c.extend_from_slice.result then out ++ t else out) text in
    search rules
