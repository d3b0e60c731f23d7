use Rattle.ic_command.specs.Left.{left}
use Rattle.ic_session.specs.Streams.{left_in}
use Rattle.ic_session.proofs.LineTaking.{line_taken, long_taken}
use Rattle.ic_session.proofs.taken_line.take_line.Goals as goal

pub returns-in-Line-clause-taken : goal.returns-in-Line-clause-taken
returns-in-Line-clause-taken g c =
    line_taken (left_in g.R.Read.remaining c.args.source.now) (left c.next_line.new.self (g.R.Read.remaining c.next_line.new.reader))
    c.next_line.new.line.items c.in-Line.ended _ c.in_ok-ended.field-0 c.in-Line.is c.in_ok-ended.ensures.taken c.in_ok-ended.ensures.some

pub returns-in_ok-skip_line-in-TooLong-clause-taken : goal.returns-in_ok-skip_line-in-TooLong-clause-taken
returns-in_ok-skip_line-in-TooLong-clause-taken g c =
    long_taken (left_in g.R.Read.remaining c.args.source.now) (left c.next_line.new.self (g.R.Read.remaining c.next_line.new.reader)) (left c.skip_line.new.self (g.R.Read.remaining c.skip_line.new.reader))
    c.next_line.new.line.items c.in_ok-ended.field-0 c.in-TooLong.is c.in_ok-ended.ensures.taken c.in_ok-skip_line-in-TooLong.ensures.skipped
