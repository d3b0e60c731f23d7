use Rattle.std.proofs.Common.{◌∙◌, sym, ap, ◌*◌}
use Rattle.ic_names.proofs.KeyOrders.{key-start}
use Rattle.ic_names.proofs.key.NameKey.start.Goals as goal

pub returns : goal.returns
returns c = ap (λ k. k * 17179869184) c.from.ensures ∙ sym (key-start c.args.number)
