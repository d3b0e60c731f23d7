use Rattle.std.proofs.lemmas.Result.{IfOk-weaker}
use Rattle.ic_trace.proofs.cursor.Cursor.make.Goals as goal

pub returns-in-Cancel-clause-does : goal.returns-in-Cancel-clause-does
returns-in-Cancel-clause-does c = rw c.in-Cancel.is (IfOk-weaker c.cancel.result _ _ (λ b h s ok known. h s c.args.known.now known c.requires) c.cancel.ensures.does)
