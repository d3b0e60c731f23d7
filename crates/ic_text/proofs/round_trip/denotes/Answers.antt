use Rattle.ic_text.proofs.Denoted.{denoted}
use Rattle.ic_text.proofs.round_trip.denotes.Goals as goal

pub returns : goal.returns
returns c = denoted
