use Rattle.ic_claim.proofs.Opening.{opens}
use Rattle.ic_claim.proofs.claims.Claims.make.Goals as goal

pub of_words-requires : goal.of_words-requires
of_words-requires c = opens c.args.budget c.requires
