use Rattle.ic_cause.proofs.PathMakers.{cause_maker, maker_cause}
use Rattle.ic_cause.proofs.shown.causes.Goals as goal

pub returns : goal.returns
returns c = λ n s es ls a b ids e c' ok sound h lead other j. (cause_maker n s es ls ok sound h a b ids e c' lead other j, maker_cause n s es ls ok sound h a b ids e c' lead other j)
