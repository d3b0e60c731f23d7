use Rattle.std.proofs.lemmas.Result.{IfOk-weaker}
use Rattle.ic_answer.specs.Texts.{answer_text}
use Rattle.ic_session.proofs.Meetings.{sweep_met}
use Rattle.ic_session.proofs.net_session.meet.Goals as goal

pub returns-in-Some-clause-turns : goal.returns-in-Some-clause-turns
returns-in-Some-clause-turns g c =
    IfOk-weaker c.sweep.result _ _
    (λ r t. sweep_met c.args.setting.now.mode c.args.desk r.0 c.args.demand c.in-Some.size (answer_text r.1) c.in-Some.ensures t)
    c.sweep.ensures
