use Rattle.std.proofs.lemmas.Result.{IfOk-weaker}
use Rattle.ic_trace.proofs.CheckedMoves.{lead_legal, lead_nets}
use Rattle.ic_trace.proofs.Equivalences.{led_leave}
use Rattle.ic_trace.proofs.checking.check.Goals as goal

pub returns-clause-standing : goal.returns-clause-standing
returns-clause-standing c = IfOk-weaker c.leads.result _ _ (λ b w t es fs x y. led_leave c.args.start.now c.lawful.ensures.proper (w.0 t) x y) c.leads.ensures

pub returns-clause-nets : goal.returns-clause-nets
returns-clause-nets c = IfOk-weaker c.leads.result _ _ (λ b w t es fs x y. lead_nets c.args.start.now c.lawful.ensures.proper (w.0 t) x y) c.leads.ensures

pub returns-clause-legal : goal.returns-clause-legal
returns-clause-legal c = IfOk-weaker c.leads.result _ _ (λ b w t. lead_legal c.args.start.now c.lawful.ensures.proper (w.0 t)) c.leads.ensures
