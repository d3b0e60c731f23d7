use Rattle.ic_net.proofs.OneListing.{one_listing, same_shown}
use Rattle.ic_net.proofs.laws.one_listing.Goals as goal

pub returns : goal.returns
returns c = λ l m h g. (one_listing l m h g, same_shown l m)
