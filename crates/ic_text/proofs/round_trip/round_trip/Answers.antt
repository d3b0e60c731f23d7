use Rattle.ic_text.proofs.Trips.{round_trip}
use Rattle.ic_text.proofs.round_trip.round_trip.Goals as goal

pub returns : goal.returns
returns c = round_trip
