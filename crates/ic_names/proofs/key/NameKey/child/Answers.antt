use Rattle.std.proofs.Common.{◌≡◌, ◌<◌, ◌≤◌, ◌+◌, ◌-◌, ◌*◌, ◌^◌, ap, ◌∙◌, arith}
use Rattle.ic_name.specs.Names.{depth}
use Rattle.ic_names.proofs.KeyOrders.{key-child, front_fits}
use Rattle.ic_names.proofs.key.NameKey.child.Goals as goal

pub overflow_add-result : goal.overflow_add-result
overflow_add-result c =
    let key = c.requires.key in
    let front = front_fits key.0 key.1 in
    let starts = key.1.starts in
    omega (arith, key.2, key.3)

pub overflow_add-result-2 : goal.overflow_add-result-2
overflow_add-result-2 c =
    let key = c.requires.key in
    let front = front_fits key.0 key.1 in
    let starts = key.1.starts in
    omega (arith, key.2, key.3, c.digit_behind.ensures.small)

pub returns : goal.returns
returns c n is e =
    let at = c.depth.ensures n is e in
    let adds = c.digit_behind.ensures in
    let inside : depth n < 17 → c.digit_behind.result ≡ c.args.digit * 4 ^ (16 - depth n) = λ h. adds.inside (omega (arith, at)) ∙ ap (λ k. c.args.digit * 4 ^ (16 - k)) at in
    let past : 17 ≤ depth n → c.digit_behind.result ≡ 0 = λ h. adds.past (omega (arith, at)) in
    ap (λ k. k + 1125899906842624 + c.digit_behind.result) e ∙ key-child n c.args.digit c.digit_behind.result inside past
