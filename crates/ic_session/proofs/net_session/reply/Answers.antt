use Rattle.std.proofs.Common.{subst}
use Rattle.std.specs.Io.KnownBytes.{Appends}
use Rattle.ic_command.specs.Faults.{AppendsFront}
use Rattle.ic_path.proofs.Errors.{at_error}
use Rattle.ic_session.specs.Streams.{written_to}
use Rattle.ic_session.proofs.net_session.reply.Goals as goal

pub returns-in_err-reply-clause-front : goal.returns-in_err-reply-clause-front
returns-in_err-reply-clause-front g c =
    at_error c.from_residual.result
    (subst (λ bytes. AppendsFront (written_to g.W.Write.contents c.args.sink.now) (g.W.Write.contents c.reply.new.writer) bytes) c.bytes.ensures c.in_err-reply.ensures.front)
