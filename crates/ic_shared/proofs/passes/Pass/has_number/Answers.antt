use Rattle.std.proofs.Common.{rules, tests, arith}
use Rattle.ic_shared.specs.Passes.{column}
use Rattle.ic_shared.proofs.Owned.{get_length}
use Rattle.ic_shared.proofs.passes.Pass.has_number.Goals as goal

pub returns-in-Some : goal.returns-in-Some
returns-in-Some g c = λ ns. let found = c.in-Some.ensures ns in search (rules, tests)

pub returns-in-None : goal.returns-in-None
returns-in-None g c = λ ns. (
  λ never. absurd (cc (never)),
  λ at. let past = c.in-None.ensures ns in let lt = get_length (column ns c.args.self.now c.args.column) c.args.place at.0 at.1 in absurd (omega arith),
)
