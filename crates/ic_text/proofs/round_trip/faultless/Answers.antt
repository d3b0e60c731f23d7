use Rattle.ic_text.proofs.NoFault.{faultless}
use Rattle.ic_text.proofs.round_trip.faultless.Goals as goal

pub returns : goal.returns
returns c = faultless
