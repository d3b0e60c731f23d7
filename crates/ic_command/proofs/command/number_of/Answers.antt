use Rattle.std.proofs.Common.{◌≡◌, Ok, true, not, arith, sym, ap, subst, ◌∙◌}
use Rattle.std.specs.Fmt.{decimal}
use Rattle.std.specs.Str.{IsUtf8}
use Rattle.std.proofs.lemmas.Fmt.{parse-decimal, IsAscii-decimal}
use Rattle.std.proofs.lemmas.Str.{IsUtf8-from_ascii}
use Rattle.std.proofs.lemmas.Slice.Eq.{bytes_eq-Decides}
use Rattle.ic_command.proofs.command.number_of.Goals as goal
use Rattle.ic_command.proofs.command.number_of.Goals.{then-number-most-via-then-number-most, then-number-most-via-else-number-most+in_ok-format+then-ne}

pub returns-in_default : goal.returns-in_default
returns-in_default c = λ n h.
    let small = h.small in
    let most = c.ranges.most in
    c.in_default.ensures.cases.0 (subst (λ bytes. IsUtf8 bytes) (sym h.written) (IsUtf8-from_ascii (decimal n) (IsAscii-decimal n (omega (arith, small, most)))))

pub returns-in_default-parse : goal.returns-in_default-parse
returns-in_default-parse c = λ n h.
    let small = h.small in
    let most = c.ranges.most in
    c.in_default-parse.not-Ok n (parse-decimal 32 n c.in-Ok.text.now c.parse.result (omega (arith, small, most)) (omega (arith, small, most)) (c.in-Ok.ensures.cases.0 ∙ h.written) c.parse.ensures.value.0)

pub returns-then-number-most : goal.returns-then-number-most
returns-then-number-most c = λ n h.
    let small = h.small in
    let most = c.ranges.most in
    let parsed = parse-decimal 32 n c.in-Ok.text.now c.parse.result (omega (arith, small, most)) (omega (arith, small, most)) (c.in-Ok.ensures.cases.0 ∙ h.written) c.parse.ensures.value.0 in
    let found : Ok c.in-Ok-parse.number ≡ Ok n = sym c.in-Ok-parse.is ∙ parsed in
    let same : c.in-Ok-parse.number ≡ n = cc in
    elim c.then-number-most.branch [
      | then-number-most-via-then-number-most w ↦ let many = w.if-number-most.true in absurd (omega (arith, many, same, small))
      | then-number-most-via-else-number-most+in_ok-format+then-ne w ↦ (
          let text : w.as_bytes.result.now ≡ c.args.word.now = w.as_bytes.ensures.value ∙ w.in_ok-format.ensures.ok ∙ ap decimal same ∙ sym h.written in
          let equal = (bytes_eq-Decides w.as_bytes.result.now c.args.word.now).1 text in
          let differs : true ≡ not true = w.if-ne.ensures ∙ ap not equal in
          absurd cc
          )
    ]
