use Rattle.std.proofs.Common.{◌≡◌, ℕ, Bool, true, false, List, sym, subst}
use Rattle.std.specs.Prelude.{◌↔◌, IsTrue}
use Rattle.std.specs.Io.KnownBytes.{Appends}
use Rattle.ic_path.proofs.Errors.{at_error}
use Rattle.ic_command.specs.Faults.{AppendsFront}
use Rattle.ic_session.specs.Echoes.{echo_in}
use Rattle.ic_session.specs.Modes.{Quits, Renews}
use Rattle.ic_session.specs.Streams.{left_in, written_to}
use Rattle.ic_session.proofs.DemandsTaken.{demand_taken, echo_begun, echo_written, end_taken, long_demand, long_silent, no_front, none_silent, quit_taken, renewal_silent, renewal_taken, whole_front}
use Rattle.ic_session.proofs.next_demand.next_demand.Goals as goal

-- what holds of the bytes that were read holds of the line
holds : (P : List ℕ → Type 0) (bytes line : List ℕ) (b : Bool) → bytes ≡ line → b ≡ true → IsTrue b ↔ P bytes → P line
holds P bytes line b same is h = subst P same (h.0 is)

fails : (P : List ℕ → Type 0) (bytes line : List ℕ) (b : Bool) → bytes ≡ line → b ≡ false → IsTrue b ↔ P bytes → ¬ (P line)
fails P bytes line b same is h q = let on : b ≡ true = h.1 (subst P (sym same) q) in cc

pub returns-then-quits-clause-taken : goal.returns-then-quits-clause-taken
returns-then-quits-clause-taken g c =
    quit_taken c.args.mode (left_in g.R.Read.remaining c.args.source.now) (left_in g.R.Read.remaining c.take_line.new.source)
    c.take_line.new.source.line.items c.in-Line.field-0 c.in_ok-take_line.field-0 c.in-Line.is c.in_ok-take_line.ensures.taken
    (holds (Quits c.args.mode) _ _ _ c.deref-in-Line.ensures.value c.if-quits.true c.quits.ensures)

pub returns-then-renews-clause-taken : goal.returns-then-renews-clause-taken
returns-then-renews-clause-taken g c =
    renewal_taken c.args.mode (left_in g.R.Read.remaining c.args.source.now) (left_in g.R.Read.remaining c.take_line.new.source)
    c.take_line.new.source.line.items c.in-Line.field-0 c.in_ok-take_line.field-0 c.in-Line.is c.in_ok-take_line.ensures.taken
    (holds (Renews c.args.mode) _ _ _ c.deref-in-Line-2.ensures.value c.if-renews.true c.renews.ensures)

pub returns-in-End-clause-taken : goal.returns-in-End-clause-taken
returns-in-End-clause-taken g c =
    end_taken c.args.mode (left_in g.R.Read.remaining c.args.source.now) (left_in g.R.Read.remaining c.take_line.new.source)
    c.take_line.new.source.line.items c.in_ok-take_line.field-0 c.in-End.is c.in_ok-take_line.ensures.taken

pub returns-in_ok-demand-in-Line-clause-taken : goal.returns-in_ok-demand-in-Line-clause-taken
returns-in_ok-demand-in-Line-clause-taken g c =
    demand_taken c.args.mode (left_in g.R.Read.remaining c.args.source.now) (left_in g.R.Read.remaining c.take_line.new.source) (left_in g.R.Read.remaining c.demand_at.new.source)
    c.take_line.new.source.line.items c.in-Line.field-0 c.in_ok-take_line.field-0 c.in_ok-demand-in-Line.demand c.in-Line.is c.in_ok-take_line.ensures.taken
    (fails (Quits c.args.mode) _ _ _ c.deref-in-Line.ensures.value c.if-quits.false c.quits.ensures) (fails (Renews c.args.mode) _ _ _ c.deref-in-Line-2.ensures.value c.if-renews.false c.renews.ensures) c.in_ok-demand-in-Line.ensures.taken

pub returns-in-TooLong-clause-taken : goal.returns-in-TooLong-clause-taken
returns-in-TooLong-clause-taken g c =
    long_demand c.args.mode (left_in g.R.Read.remaining c.args.source.now) (left_in g.R.Read.remaining c.take_line.new.source)
    c.take_line.new.source.line.items c.in_ok-take_line.field-0 c.in-TooLong.is c.in_ok-take_line.ensures.taken

pub returns-then-quits-clause-echoed : goal.returns-then-quits-clause-echoed
returns-then-quits-clause-echoed g c = none_silent c.args.mode (left_in g.R.Read.remaining c.args.source.now) (written_to g.W.Write.contents c.args.sink.now)

pub returns-then-renews-clause-echoed : goal.returns-then-renews-clause-echoed
returns-then-renews-clause-echoed g c = renewal_silent c.args.mode (left_in g.R.Read.remaining c.args.source.now) (written_to g.W.Write.contents c.args.sink.now)

pub returns-in-End-clause-echoed : goal.returns-in-End-clause-echoed
returns-in-End-clause-echoed g c = none_silent c.args.mode (left_in g.R.Read.remaining c.args.source.now) (written_to g.W.Write.contents c.args.sink.now)

pub returns-in-TooLong-clause-echoed : goal.returns-in-TooLong-clause-echoed
returns-in-TooLong-clause-echoed g c =
    long_silent c.args.mode (left_in g.R.Read.remaining c.args.source.now) (left_in g.R.Read.remaining c.take_line.new.source)
    c.take_line.new.source.line.items c.in_ok-take_line.field-0 (written_to g.W.Write.contents c.args.sink.now) c.in-TooLong.is c.in_ok-take_line.ensures.taken

pub returns-in_ok-demand-in-Line-clause-echoed : goal.returns-in_ok-demand-in-Line-clause-echoed
returns-in_ok-demand-in-Line-clause-echoed g c =
    echo_written c.args.mode (left_in g.R.Read.remaining c.args.source.now) (left_in g.R.Read.remaining c.take_line.new.source)
    c.take_line.new.source.line.items c.in-Line.field-0 c.in_ok-take_line.field-0 c.in_ok-demand-in-Line.demand (written_to g.W.Write.contents c.args.sink.now) (written_to g.W.Write.contents c.echo.new.sink)
    c.in-Line.is c.in_ok-take_line.ensures.taken
    (subst (λ bytes. Appends (written_to g.W.Write.contents c.args.sink.now) (written_to g.W.Write.contents c.echo.new.sink) (echo_in c.args.mode bytes)) c.deref-in-Line-3.ensures.value c.in_ok-echo-in-Line.ensures.written)

pub returns-in_err-take_line-clause-begun : goal.returns-in_err-take_line-clause-begun
returns-in_err-take_line-clause-begun g c =
    at_error c.from_residual.result (no_front c.args.mode (left_in g.R.Read.remaining c.args.source.now) (written_to g.W.Write.contents c.args.sink.now))

pub returns-in_err-echo-in-Line-clause-begun : goal.returns-in_err-echo-in-Line-clause-begun
returns-in_err-echo-in-Line-clause-begun g c =
    at_error c.from_residual-in_err-echo-in-Line.result
    (echo_begun c.args.mode (left_in g.R.Read.remaining c.args.source.now) (left_in g.R.Read.remaining c.take_line.new.source)
    c.take_line.new.source.line.items c.in-Line.field-0 c.in_ok-take_line.field-0 (written_to g.W.Write.contents c.args.sink.now) (written_to g.W.Write.contents c.echo.new.sink)
    c.in-Line.is c.in_ok-take_line.ensures.taken
    (subst (λ bytes. AppendsFront (written_to g.W.Write.contents c.args.sink.now) (written_to g.W.Write.contents c.echo.new.sink) (echo_in c.args.mode bytes)) c.deref-in-Line-3.ensures.value c.in_err-echo-in-Line.ensures.front))

pub returns-in_err-demand-in-Line-clause-begun : goal.returns-in_err-demand-in-Line-clause-begun
returns-in_err-demand-in-Line-clause-begun g c =
    at_error c.from_residual-in_err-demand-in-Line.result
    (echo_begun c.args.mode (left_in g.R.Read.remaining c.args.source.now) (left_in g.R.Read.remaining c.take_line.new.source)
    c.take_line.new.source.line.items c.in-Line.field-0 c.in_ok-take_line.field-0 (written_to g.W.Write.contents c.args.sink.now) (written_to g.W.Write.contents c.echo.new.sink)
    c.in-Line.is c.in_ok-take_line.ensures.taken
    (whole_front (subst (λ bytes. Appends (written_to g.W.Write.contents c.args.sink.now) (written_to g.W.Write.contents c.echo.new.sink) (echo_in c.args.mode bytes)) c.deref-in-Line-3.ensures.value c.in_ok-echo-in-Line.ensures.written)))
