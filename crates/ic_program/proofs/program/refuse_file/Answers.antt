use Rattle.std.proofs.Common.{◌≡◌, rules, subst}
use Rattle.ic_command.specs.Faults.{AppendsFront}
use Rattle.ic_program.specs.Statuses.{unread_line}
use Rattle.ic_program.proofs.program.refuse_file.Goals as goal

pub returns-clause-said : goal.returns-clause-said
returns-clause-said g c =
    let said : AppendsFront (g.E.Write.contents c.args.errors.now) (g.E.Write.contents c.write_reply.new.writer) c.as_bytes.result.now = search rules in
    let line : c.as_bytes.result.now ≡ unread_line c.args.name.now = search rules in
    subst (AppendsFront (g.E.Write.contents c.args.errors.now) (g.E.Write.contents c.write_reply.new.writer)) line said
