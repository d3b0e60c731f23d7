use Rattle.std.proofs.lemmas.Result.{IfOk-weaker}
use Rattle.ic_answer.specs.Texts.{answer_text}
use Rattle.ic_session.proofs.Meetings.{request_met, question_met}
use Rattle.ic_session.proofs.net_session.meet_alone.Goals as goal

pub returns-in-Requests : goal.returns-in-Requests
returns-in-Requests g c =
    IfOk-weaker c.carry_out.result _ _
    (λ answer t. request_met c.args.setting.now.mode c.args.desk.now c.carry_out.new.self c.args.demand c.in-Requests.request c.within.result (answer_text answer) c.in-Requests.is c.within.ensures t)
    c.carry_out.ensures.turns

pub returns-in-Asks : goal.returns-in-Asks
returns-in-Asks g c =
    IfOk-weaker c.tell.result _ _
    (λ answer t. question_met c.args.setting.now.mode c.args.desk.now c.tell.new.self c.args.demand c.in-Asks.question (answer_text answer) c.in-Asks.is t)
    c.tell.ensures.told
