use Rattle.ic_text.proofs.DenotedNet.{denoted_net}
use Rattle.ic_text.proofs.round_trip.reread.Goals as goal

pub returns : goal.returns
returns c = denoted_net
