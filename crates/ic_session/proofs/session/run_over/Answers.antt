use Rattle.std.proofs.Common.{refl, arith, ◌∙◌}
use Rattle.ic_path.proofs.Errors.{at_error}
use Rattle.ic_session.specs.Streams.{left_in, written_to}
use Rattle.ic_session.proofs.NetsInTurn.{led_begun, led_none, led_on, led_over}
use Rattle.ic_session.proofs.session.run_over.Goals as goal

pub loop-status-init : goal.loop-status-init
loop-status-init g c = record {
  led = led_none c.args.setting.now.mode (left_in g.R.Read.remaining c.args.source.now) (written_to g.W.Write.contents c.args.sink.now);
  fewer = omega arith;
  same_writer = refl;
}

pub loop-status-preserved : goal.loop-status-preserved
loop-status-preserved g c =
    let before = c.loop-status.invariant.fewer in
    let fewer = c.in_ok-status.ensures.fewer in
    record {
      led = led_on c.args.setting.now.mode (left_in g.R.Read.remaining c.args.source.now) (left_in g.R.Read.remaining c.loop-status.source) (left_in g.R.Read.remaining c.run_net.new.source)
          (written_to g.W.Write.contents c.args.sink.now) (written_to g.W.Write.contents c.loop-status.sink) (written_to g.W.Write.contents c.run_net.new.sink) c.in_ok-status.field-0 c.loop-status.invariant.led c.in-Another.is c.in_ok-status.ensures.written;
      fewer = omega arith;
      same_writer = c.run_net.ensures.same_writer ∙ c.loop-status.invariant.same_writer;
    }

pub returns-in-Over-clause-written : goal.returns-in-Over-clause-written
returns-in-Over-clause-written g c =
    led_over c.args.setting.now.mode (left_in g.R.Read.remaining c.args.source.now) (left_in g.R.Read.remaining c.loop-status.source) (left_in g.R.Read.remaining c.run_net.new.source)
    (written_to g.W.Write.contents c.args.sink.now) (written_to g.W.Write.contents c.loop-status.sink) (written_to g.W.Write.contents c.run_net.new.sink) c.in_ok-status.field-0 c.in-Over.status c.loop-status.invariant.led c.in-Over.is c.in_ok-status.ensures.written

pub returns-in_err-status-clause-begun : goal.returns-in_err-status-clause-begun
returns-in_err-status-clause-begun g c =
    at_error c.from_residual.result
    (led_begun c.args.setting.now.mode (left_in g.R.Read.remaining c.args.source.now) (left_in g.R.Read.remaining c.loop-status.source)
    (written_to g.W.Write.contents c.args.sink.now) (written_to g.W.Write.contents c.loop-status.sink) (written_to g.W.Write.contents c.run_net.new.sink) c.loop-status.invariant.led c.in_err-status.ensures.begun)
