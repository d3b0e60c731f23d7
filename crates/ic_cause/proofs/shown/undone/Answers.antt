use Rattle.ic_cause.proofs.OtherLinks.{shows_less}
use Rattle.ic_cause.proofs.shown.undone.Goals as goal

pub returns : goal.returns
returns c = λ n less s es rest ls left d e sound h has is k drops x held. shows_less n less s es rest ls left d e sound h has is k drops x held
