use Rattle.std.proofs.Common.{refl, sym, arith, ◌∙◌}
use Rattle.ic_path.proofs.Errors.{at_error}
use Rattle.ic_session.specs.declared.session.Status.TheVariants.{Ended, Stopped}
use Rattle.ic_session.specs.declared.net_session.NetEnd.TheVariants.{Another, Over}
use Rattle.ic_session.specs.Streams.{left_in, written_to}
use Rattle.ic_session.proofs.AnswerFacts.{answered_none, answered_more, answered_all, answered_last, answered_renewal, all_answered, answered_begun, answered_silent, answered_front, all_begun}
use Rattle.ic_session.proofs.net_session.answer_all.Goals as goal

pub loop-desk-init : goal.loop-desk-init
loop-desk-init g c = record {
  start = refl;
  answered = λ st at. answered_none c.args.desk.bench.start c.args.setting.now.mode st c.args.desk (left_in g.R.Read.remaining c.args.source.now) (written_to g.W.Write.contents c.args.sink.now) at;
  less = omega arith;
  fewer = omega arith;
  same_writer = refl;
}

pub loop-desk-preserved : goal.loop-desk-preserved
loop-desk-preserved g c =
    let turn = c.in_ok-after-in-Demand.ensures.turns in
    let before = c.loop-desk.invariant.fewer in
    let fewer = c.in_ok-demand.ensures.fewer in
    let so_far = c.loop-desk.invariant.less in
    let less = c.in_ok-demand.ensures.less in
    record {
      start = turn.start ∙ c.loop-desk.invariant.start;
      answered = λ st at. answered_more c.args.desk.bench.start c.args.setting.now.mode st c.loop-desk.desk _ (left_in g.R.Read.remaining c.args.source.now) (left_in g.R.Read.remaining c.loop-desk.source) (left_in g.R.Read.remaining c.next_demand.new.source)
          (written_to g.W.Write.contents c.args.sink.now) (written_to g.W.Write.contents c.loop-desk.sink) (written_to g.W.Write.contents c.next_demand.new.sink) (written_to g.W.Write.contents c.reply.new.sink)
          c.in_ok-demand.field-0 c.in-Demand.demand _ c.loop-desk.invariant.start (c.loop-desk.invariant.answered st at) c.in-Demand.is c.in_ok-demand.ensures.taken c.in_ok-demand.ensures.echoed
          turn c.in_ok-reply-in-Demand.ensures.written (sym c.in_ok-reply-in-Demand.ensures.stopping ∙ c.if-branch.false);
      less = omega arith;
      fewer = omega arith;
      same_writer = c.reply.ensures.same_writer ∙ c.next_demand.ensures.same_writer ∙ c.loop-desk.invariant.same_writer;
    }

pub returns-in-Done-clause-answered : goal.returns-in-Done-clause-answered
returns-in-Done-clause-answered g c =
    all_answered (Over Ended) c.args.setting.now.mode (left_in g.R.Read.remaining c.args.source.now) (left_in g.R.Read.remaining c.next_demand.new.source) c.args.desk (written_to g.W.Write.contents c.args.sink.now) (written_to g.W.Write.contents c.next_demand.new.sink) (λ st at.
    answered_all c.args.desk.bench.start c.args.setting.now.mode st c.loop-desk.desk (left_in g.R.Read.remaining c.args.source.now) (left_in g.R.Read.remaining c.loop-desk.source) (left_in g.R.Read.remaining c.next_demand.new.source) (written_to g.W.Write.contents c.args.sink.now) (written_to g.W.Write.contents c.loop-desk.sink) (written_to g.W.Write.contents c.next_demand.new.sink)
    c.in_ok-demand.field-0 (c.loop-desk.invariant.answered st at) c.in-Done.is c.in_ok-demand.ensures.taken c.in_ok-demand.ensures.echoed)

pub returns-in-Renewal-clause-answered : goal.returns-in-Renewal-clause-answered
returns-in-Renewal-clause-answered g c =
    all_answered Another c.args.setting.now.mode (left_in g.R.Read.remaining c.args.source.now) (left_in g.R.Read.remaining c.next_demand.new.source) c.args.desk (written_to g.W.Write.contents c.args.sink.now) (written_to g.W.Write.contents c.next_demand.new.sink) (λ st at.
    answered_renewal c.args.desk.bench.start c.args.setting.now.mode st c.loop-desk.desk (left_in g.R.Read.remaining c.args.source.now) (left_in g.R.Read.remaining c.loop-desk.source) (left_in g.R.Read.remaining c.next_demand.new.source) (written_to g.W.Write.contents c.args.sink.now) (written_to g.W.Write.contents c.loop-desk.sink) (written_to g.W.Write.contents c.next_demand.new.sink)
    c.in_ok-demand.field-0 (c.loop-desk.invariant.answered st at) c.in-Renewal.is c.in_ok-demand.ensures.taken c.in_ok-demand.ensures.echoed)

pub returns-then-branch-clause-answered : goal.returns-then-branch-clause-answered
returns-then-branch-clause-answered g c =
    let turn = c.in_ok-after-in-Demand.ensures.turns in
    all_answered (Over Stopped) c.args.setting.now.mode (left_in g.R.Read.remaining c.args.source.now) (left_in g.R.Read.remaining c.next_demand.new.source) c.args.desk (written_to g.W.Write.contents c.args.sink.now) (written_to g.W.Write.contents c.reply.new.sink) (λ st at.
    answered_last c.args.desk.bench.start c.args.setting.now.mode st c.loop-desk.desk _ (left_in g.R.Read.remaining c.args.source.now) (left_in g.R.Read.remaining c.loop-desk.source) (left_in g.R.Read.remaining c.next_demand.new.source)
    (written_to g.W.Write.contents c.args.sink.now) (written_to g.W.Write.contents c.loop-desk.sink) (written_to g.W.Write.contents c.next_demand.new.sink) (written_to g.W.Write.contents c.reply.new.sink)
    c.in_ok-demand.field-0 c.in-Demand.demand _ c.loop-desk.invariant.start (c.loop-desk.invariant.answered st at) c.in-Demand.is c.in_ok-demand.ensures.taken c.in_ok-demand.ensures.echoed
    turn c.in_ok-reply-in-Demand.ensures.written (sym c.in_ok-reply-in-Demand.ensures.stopping ∙ c.if-branch.true))

pub returns-in_err-demand-clause-begun : goal.returns-in_err-demand-clause-begun
returns-in_err-demand-clause-begun g c =
    at_error c.from_residual.result
    (all_begun c.args.setting.now.mode (left_in g.R.Read.remaining c.args.source.now) c.args.desk (written_to g.W.Write.contents c.args.sink.now) (written_to g.W.Write.contents c.next_demand.new.sink) (λ st at.
    answered_begun c.args.desk.bench.start c.args.setting.now.mode st c.loop-desk.desk (left_in g.R.Read.remaining c.args.source.now) (left_in g.R.Read.remaining c.loop-desk.source) (written_to g.W.Write.contents c.args.sink.now) (written_to g.W.Write.contents c.loop-desk.sink) (written_to g.W.Write.contents c.next_demand.new.sink) (c.loop-desk.invariant.answered st at) c.in_err-demand.ensures.begun))

pub returns-in_err-after-in-Demand-clause-begun : goal.returns-in_err-after-in-Demand-clause-begun
returns-in_err-after-in-Demand-clause-begun g c =
    at_error c.from_residual-in_err-after-in-Demand.result
    (all_begun c.args.setting.now.mode (left_in g.R.Read.remaining c.args.source.now) c.args.desk (written_to g.W.Write.contents c.args.sink.now) (written_to g.W.Write.contents c.next_demand.new.sink) (λ st at.
    answered_silent c.args.desk.bench.start c.args.setting.now.mode st c.loop-desk.desk (left_in g.R.Read.remaining c.args.source.now) (left_in g.R.Read.remaining c.loop-desk.source) (written_to g.W.Write.contents c.args.sink.now) (written_to g.W.Write.contents c.loop-desk.sink) (written_to g.W.Write.contents c.next_demand.new.sink)
    c.in_ok-demand.field-0 c.in-Demand.demand (c.loop-desk.invariant.answered st at) c.in-Demand.is c.in_ok-demand.ensures.echoed))

pub returns-in_err-reply-in-Demand-clause-begun : goal.returns-in_err-reply-in-Demand-clause-begun
returns-in_err-reply-in-Demand-clause-begun g c =
    let turn = c.in_ok-after-in-Demand.ensures.turns in
    at_error c.from_residual-in_err-reply-in-Demand.result
    (all_begun c.args.setting.now.mode (left_in g.R.Read.remaining c.args.source.now) c.args.desk (written_to g.W.Write.contents c.args.sink.now) (written_to g.W.Write.contents c.reply.new.sink) (λ st at.
    answered_front c.args.desk.bench.start c.args.setting.now.mode st c.loop-desk.desk _ (left_in g.R.Read.remaining c.args.source.now) (left_in g.R.Read.remaining c.loop-desk.source) (left_in g.R.Read.remaining c.next_demand.new.source) (written_to g.W.Write.contents c.args.sink.now) (written_to g.W.Write.contents c.loop-desk.sink) (written_to g.W.Write.contents c.next_demand.new.sink) (written_to g.W.Write.contents c.reply.new.sink)
    c.in_ok-demand.field-0 c.in-Demand.demand _ c.loop-desk.invariant.start (c.loop-desk.invariant.answered st at) c.in-Demand.is c.in_ok-demand.ensures.taken c.in_ok-demand.ensures.echoed
    turn c.in_err-reply-in-Demand.ensures.front))
