use Rattle.std.proofs.Common.{rules}
use Rattle.ic_text.proofs.Numbering.{bare_rows}
use Rattle.ic_text.proofs.print.numbers.WireNumbers.none.Goals as goal

pub returns-clause-bare : goal.returns-clause-bare
returns-clause-bare c = λ k i. bare_rows c.resize.new.self.items c.args.agents k i (search rules)
