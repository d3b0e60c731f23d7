use Rattle.std.proofs.Common.{refl}
use Rattle.ic_command.proofs.WordCuts.{words_parted, word_alone}
use Rattle.ic_command.proofs.laws.words_end_at_blanks.Goals as goal

pub returns : goal.returns
returns c = record { parted = words_parted; word = word_alone; none = refl }
