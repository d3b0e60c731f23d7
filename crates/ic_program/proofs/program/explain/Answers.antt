use Rattle.std.proofs.Common.{◌≡◌, ◌≢◌, rules, refl}
use Rattle.clap.specs.Words.{kind_of}
use Rattle.clap.specs.declared.error.kind.ErrorKind.TheVariants.{OutOfMemory}
use Rattle.ic_command.specs.Faults.{AppendsFront}
use Rattle.ic_session.specs.declared.fault.Fault.TheVariants.{Write}
use Rattle.ic_program.specs.Runs.{IsMistake}
use Rattle.ic_program.specs.Runs.Explains.{helped, unheard, wanting, refused}
use Rattle.ic_program.specs.Statuses.{fault_line, fault_status}
use Rattle.ic_program.proofs.program.explain.Goals as goal

pub returns-then-eq : goal.returns-then-eq
returns-then-eq g c = rw c.fail.ensures.status (wanting refl c.fail.ensures.said)

pub returns-in_default : goal.returns-in_default
returns-in_default g c = rw c.fail-in_default.ensures.status (wanting refl c.fail-in_default.ensures.said)

pub returns-then-use_stderr : goal.returns-then-use_stderr
returns-then-use_stderr g c =
    let mistake : IsMistake (kind_of c.args.error) = search rules in
    let memory : kind_of c.args.error ≢ OutOfMemory = search rules in
    let said : AppendsFront (g.E.Write.contents c.args.errors.now) (g.E.Write.contents c.write_reply.new.writer) c.as_bytes.result.now = search rules in
    refused c.as_bytes.result.now mistake memory refl said

pub returns-in-Ok-write_reply : goal.returns-in-Ok-write_reply
returns-in-Ok-write_reply g c =
    let asked : IsMistake (kind_of c.args.error) → ⊥ = search rules in
    helped c.as_bytes-2.result.now asked c.in-Ok-write_reply.ensures.written refl

pub returns : goal.returns
returns g c =
    let asked : IsMistake (kind_of c.args.error) → ⊥ = search rules in
    let status : c.fail-in-Err.result ≡ fault_status Write = search rules in
    let said : AppendsFront (g.E.Write.contents c.args.errors.now) (g.E.Write.contents c.fail-in-Err.new.errors) (fault_line Write) = search rules in
    rw status (unheard c.as_bytes-2.result.now asked c.in-Err.ensures.front said)
