use Rattle.std.proofs.lemmas.Result.{IfOk-weaker}
use Rattle.ic_journal.proofs.bench.Bench.changed_leads_since.Goals as goal

pub returns : goal.returns
returns g c = rw (← c.self.view_is) (IfOk-weaker c.leads_changed_since.result _ _ (λ leads told. told c.self.inside.set.names c.self.invariant.named) c.leads_changed_since.ensures)
