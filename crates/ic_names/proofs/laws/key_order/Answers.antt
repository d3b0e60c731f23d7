use Rattle.ic_names.proofs.KeyOrders.{key_less, key_tied, name_proper, key_fits}
use Rattle.ic_names.proofs.laws.key_order.Goals as goal

pub returns : goal.returns
returns c = record {
  proper = name_proper;
  less = key_less;
  tied = key_tied;
  fits = key_fits;
}
