use Rattle.ic_text.proofs.SameBytes.{same_bytes}
use Rattle.ic_text.proofs.round_trip.same_bytes.Goals as goal

pub returns : goal.returns
returns c = same_bytes
