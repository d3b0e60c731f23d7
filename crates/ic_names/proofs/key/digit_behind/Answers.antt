use Rattle.std.proofs.Common.{◌-◌, ◌*◌, ◌^◌, ap, sym, ◌∙◌, arith}
use Rattle.std.proofs.lemmas.Nat.{shl_whole}
use Rattle.ic_names.proofs.Fronts.{four-pow}
use Rattle.ic_names.proofs.key.digit_behind.Goals as goal

pub returns-then-depth-lt-FRONT-clause-inside : goal.returns-then-depth-lt-FRONT-clause-inside
returns-then-depth-lt-FRONT-clause-inside c low =
    let whole = shl_whole c.from.result 2 (2 * (16 - c.args.depth)) 64 (omega arith) (omega arith) in
    whole ∙ ap (λ d. d * 2 ^ (2 * (16 - c.args.depth))) c.from.ensures ∙ ap (λ p. c.args.digit * p) (sym (four-pow (16 - c.args.depth)))
