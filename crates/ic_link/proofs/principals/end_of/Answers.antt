use Rattle.std.proofs.Common.{inl, inr}
use Rattle.ic_link.proofs.FarSpots.{bare_far, end_far, no_joint}
use Rattle.ic_link.proofs.principals.end_of.Goals as goal

pub returns-in-End : goal.returns-in-End
returns-in-End c = λ ls slim few h. end_far ls slim c.args.spot few c.in-End.end (rw c.in-End.is at h)

pub returns-in-Bare : goal.returns-in-Bare
returns-in-Bare c = λ ls slim few h. elim c.in-Bare.is [
  | inl bare ↦ bare_far ls slim c.args.spot few (rw bare at h)
  | inr joint ↦ absurd (no_joint ls slim c.args.spot few (rw joint at h))
]
