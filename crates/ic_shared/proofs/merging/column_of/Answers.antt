use Rattle.std.proofs.Common.{◌/◌, arith}
use Rattle.ic_shared.proofs.Columns.{calls_at, runs_at}
use Rattle.ic_shared.proofs.merging.column_of.Goals as goal

pub returns-then-number-eq0 : goal.returns-then-number-eq0
returns-then-number-eq0 c = λ ns passes pass at. calls_at ns passes c.args.number (c.args.number / 2) pass (omega arith) at

pub returns-else-number-eq0 : goal.returns-else-number-eq0
returns-else-number-eq0 c = λ ns passes pass at. runs_at ns passes c.args.number (c.args.number / 2) pass (omega arith) at
