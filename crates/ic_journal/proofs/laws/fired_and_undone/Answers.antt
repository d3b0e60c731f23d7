use Rattle.ic_journal.proofs.ThereAndBack.{given_back}
use Rattle.ic_journal.proofs.laws.fired_and_undone.Goals as goal

pub returns : goal.returns
returns c = λ old mid new e id lawful fires undoes. given_back old mid new e id lawful fires undoes
