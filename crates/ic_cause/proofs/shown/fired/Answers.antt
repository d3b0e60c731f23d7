use Rattle.ic_cause.proofs.MoreLinks.{shows_more}
use Rattle.ic_cause.proofs.shown.fired.Goals as goal

pub returns : goal.returns
returns c = λ n more s es ls new all e h x apart held made a. shows_more n more s es ls new all e h x apart held made a
