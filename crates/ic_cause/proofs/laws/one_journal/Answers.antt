use Rattle.ic_cause.proofs.OneJournal.{one_journal}
use Rattle.ic_cause.proofs.laws.one_journal.Goals as goal

pub returns : goal.returns
returns c = λ s es fs xs ys ok h a i j. one_journal s a h xs ys i j
