use Rattle.std.proofs.Common.{ap, ◌∙◌, ◌/◌, ◌%◌}
use Rattle.ic_names.proofs.KeyOrders.{key_start_number}
use Rattle.ic_names.proofs.key.NameKey.start_number.Goals as goal

pub returns : goal.returns
returns c n is e = ap (λ k. k % 1125899906842624 / 17179869184) e ∙ key_start_number n is
