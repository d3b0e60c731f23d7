use Rattle.std.proofs.Common.{ap, ◌∙◌, ◌/◌}
use Rattle.ic_names.proofs.KeyOrders.{key_depth}
use Rattle.ic_names.proofs.key.NameKey.depth.Goals as goal

pub returns : goal.returns
returns c n is e = ap (λ k. k / 1125899906842624) e ∙ key_depth n is
