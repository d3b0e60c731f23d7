use Rattle.ic_cause.proofs.ByPorts.{trail_held}
use Rattle.ic_cause.proofs.FarSpots.{sound_partner}
use Rattle.ic_cause.proofs.shown.partners.Goals as goal

pub returns : goal.returns
returns c = λ n s es ls p q ids ok sound h k loose j. ((trail_held n h.held k j.trail).0, sound_partner n s es ls p q ids ok sound h k loose j)
