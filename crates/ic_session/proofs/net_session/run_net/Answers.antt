use Rattle.std.proofs.Common.{Err, ap, ◌∙◌, subst}
use Rattle.std.proofs.lemmas.Result.{IfOk-weaker, on_err_weaker}
use Rattle.ic_path.proofs.Errors.{at_error}
use Rattle.ic_text.specs.Grammar.{Denotes}
use Rattle.ic_text.specs.Faults.{Stands, IsFirstFault}
use Rattle.ic_text.specs.declared.grammar.refusal.Refusal.{Refusal}
use Rattle.ic_session.specs.Streams.{left_in, written_to}
use Rattle.ic_session.proofs.SessionFacts.{wrote_too_long, wrote_fault, wrote_answers, begun_nothing, begun_too_long, begun_fault, begun_answers}
use Rattle.ic_session.proofs.AnswerFacts.{opened_answers, opened_begun}
use Rattle.ic_session.proofs.net_session.run_net.Goals as goal

pub returns-in-TooLong-clause-written : goal.returns-in-TooLong-clause-written
returns-in-TooLong-clause-written g c =
    let now = left_in g.R.Read.remaining c.read_net_text.new.source in
    let read = c.in_ok-read_net_text.ensures.read in
    IfOk-weaker c.refuse.result _ _
    (λ end named. wrote_too_long c.args.setting.now.mode (left_in g.R.Read.remaining c.args.source.now) now now (written_to g.W.Write.contents c.args.sink.now) (written_to g.W.Write.contents c.refuse.new.sink) c.in_ok-read_net_text.field-0 c.in-TooLong.is read end named.0 named.1)
    c.refuse.ensures.named

pub returns-in-Err-Refused-clause-written : goal.returns-in-Err-Refused-clause-written
returns-in-Err-Refused-clause-written g c =
    let now = left_in g.R.Read.remaining c.read_net_text.new.source in
    let read = c.in_ok-read_net_text.ensures.read in
    let first = subst (λ bytes. IsFirstFault bytes c.in-Err-Refused.refusal) c.deref.ensures.value (c.read_net.ensures.fault c.in-Err-Refused.refusal (c.in-Err-Refused.is ∙ ap Err c.in-Err-Refused.field-0-is)) in
    let refused = rw c.in-Err-Refused.refusal-is at c.refuse-in-Err-Refused.ensures.named in
    IfOk-weaker c.refuse-in-Err-Refused.result _ _
    (λ end named. wrote_fault c.args.setting.now.mode (left_in g.R.Read.remaining c.args.source.now) now (written_to g.W.Write.contents c.args.sink.now) (written_to g.W.Write.contents c.refuse-in-Err-Refused.new.sink)
    c.in_ok-read_net_text.field-0 c.in-Whole.text c.in-Whole.barred c.in-Err-Refused.refusal c.in-Whole.is read first end named.0 named.1)
    c.refuse-in-Err-Refused.ensures.named

pub returns-clause-written : goal.returns-clause-written
returns-clause-written g c =
    let now = left_in g.R.Read.remaining c.read_net_text.new.source in
    let read = c.in_ok-read_net_text.ensures.read in
    let denoted = subst (λ bytes. Denotes bytes c.in-Ok.start) c.deref.ensures.value c.in-Ok.ensures.found in
    let faultless = subst (λ bytes. (f : Refusal) → Stands bytes f → ⊥) c.deref.ensures.value c.in-Ok.ensures.faultless in
    let after = left_in g.R.Read.remaining c.answer_all.new.source in
    IfOk-weaker c.answer_all.result _ _
    (λ end answered. wrote_answers c.args.setting.now.mode (left_in g.R.Read.remaining c.args.source.now) now after (written_to g.W.Write.contents c.args.sink.now) (written_to g.W.Write.contents c.answer_all.new.sink)
    c.in_ok-read_net_text.field-0 c.in-Whole.text c.in-Whole.barred c.in-Ok.start end c.in-Whole.is read denoted faultless
    (opened_answers end now after c.in-Ok.start c.args.setting.now.mode c.in_ok-desk.desk (written_to g.W.Write.contents c.args.sink.now) (written_to g.W.Write.contents c.answer_all.new.sink) c.in_ok-desk.ensures answered))
    c.answer_all.ensures.answered

pub returns-in_err-read_net_text-clause-begun : goal.returns-in_err-read_net_text-clause-begun
returns-in_err-read_net_text-clause-begun g c =
    at_error c.from_residual.result (begun_nothing c.args.setting.now.mode (left_in g.R.Read.remaining c.args.source.now) (written_to g.W.Write.contents c.args.sink.now))

pub returns-in-TooLong-clause-begun : goal.returns-in-TooLong-clause-begun
returns-in-TooLong-clause-begun g c =
    let now = left_in g.R.Read.remaining c.read_net_text.new.source in
    let read = c.in_ok-read_net_text.ensures.read in
    on_err_weaker c.refuse.result
    (begun_too_long c.args.setting.now.mode (left_in g.R.Read.remaining c.args.source.now) now (written_to g.W.Write.contents c.args.sink.now) (written_to g.W.Write.contents c.refuse.new.sink) c.in_ok-read_net_text.field-0 c.in-TooLong.is read)
    c.refuse.ensures.front

pub returns-in-Err-Memory-clause-begun : goal.returns-in-Err-Memory-clause-begun
returns-in-Err-Memory-clause-begun g c =
    begun_nothing c.args.setting.now.mode (left_in g.R.Read.remaining c.args.source.now) (written_to g.W.Write.contents c.args.sink.now)

pub returns-in-Err-Refused-clause-begun : goal.returns-in-Err-Refused-clause-begun
returns-in-Err-Refused-clause-begun g c =
    let now = left_in g.R.Read.remaining c.read_net_text.new.source in
    let read = c.in_ok-read_net_text.ensures.read in
    let first = subst (λ bytes. IsFirstFault bytes c.in-Err-Refused.refusal) c.deref.ensures.value (c.read_net.ensures.fault c.in-Err-Refused.refusal (c.in-Err-Refused.is ∙ ap Err c.in-Err-Refused.field-0-is)) in
    on_err_weaker c.refuse-in-Err-Refused.result
    (begun_fault c.args.setting.now.mode (left_in g.R.Read.remaining c.args.source.now) now (written_to g.W.Write.contents c.args.sink.now) (written_to g.W.Write.contents c.refuse-in-Err-Refused.new.sink)
    c.in_ok-read_net_text.field-0 c.in-Whole.text c.in-Whole.barred c.in-Err-Refused.refusal c.in-Whole.is read first)
    c.refuse-in-Err-Refused.ensures.front

pub returns-in_err-desk-clause-begun : goal.returns-in_err-desk-clause-begun
returns-in_err-desk-clause-begun g c =
    at_error c.from_residual-in_err-desk.result (begun_nothing c.args.setting.now.mode (left_in g.R.Read.remaining c.args.source.now) (written_to g.W.Write.contents c.args.sink.now))

pub returns-clause-begun : goal.returns-clause-begun
returns-clause-begun g c =
    let now = left_in g.R.Read.remaining c.read_net_text.new.source in
    let read = c.in_ok-read_net_text.ensures.read in
    let denoted = subst (λ bytes. Denotes bytes c.in-Ok.start) c.deref.ensures.value c.in-Ok.ensures.found in
    let faultless = subst (λ bytes. (f : Refusal) → Stands bytes f → ⊥) c.deref.ensures.value c.in-Ok.ensures.faultless in
    on_err_weaker c.answer_all.result
    (λ begun. begun_answers c.args.setting.now.mode (left_in g.R.Read.remaining c.args.source.now) now (written_to g.W.Write.contents c.args.sink.now) (written_to g.W.Write.contents c.answer_all.new.sink)
    c.in_ok-read_net_text.field-0 c.in-Whole.text c.in-Whole.barred c.in-Ok.start c.in-Whole.is read denoted faultless
    (opened_begun now c.in-Ok.start c.args.setting.now.mode c.in_ok-desk.desk (written_to g.W.Write.contents c.args.sink.now) (written_to g.W.Write.contents c.answer_all.new.sink) c.in_ok-desk.ensures begun))
    c.answer_all.ensures.begun
