use Rattle.std.proofs.Common.{◌+◌, [], ◌∷◌, ◌++◌, ap, arith, append_assoc, get_or, ◌∙◌}
use Rattle.ic_name.proofs.NameTextFacts.{digits_text-more}
use Rattle.ic_name.proofs.names.AgentName.write_to.Goals as goal

pub loop-digit-preserved : goal.loop-digit-preserved
loop-digit-preserved c =
    let dot = c.push_reserved.ensures in
    let digit = c.push_reserved-in-loop-digit.ensures in
    let code = 48 + get_or c.as_slice-digits.result.now c.loop-digit.digit-index 0 in
    record {
      written = digit.items ∙ ap (λ xs. xs ++ code ∷ []) dot.items ∙ append_assoc c.loop-digit.out.items (46 ∷ []) (code ∷ []) ∙ rw c.loop-digit.invariant.written (digits_text-more _ _ _ c.loop-digit-test.true);
      room = omega (arith, c.loop-digit.invariant.room, dot.len, dot.capacity, digit.len, digit.capacity, c.loop-digit-test.true);
    }
