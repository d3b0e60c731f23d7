use Rattle.std.proofs.Common.{rules, arith, ◌∙◌, sym, ap, ◌++◌, ◌<◌, length, subst}
use Rattle.ic_text.specs.declared.grammar.limits.TheConstants.{MAX_TEXT}
use Rattle.ic_session.specs.InputLines.{is_bar, whole_line}
use Rattle.ic_command.specs.Left.{left}
use Rattle.ic_session.specs.Streams.{left_in}
use Rattle.ic_session.proofs.InputFacts.{HasRead, lessened, read_more, read_bar, read_long, read_over}
use Rattle.ic_session.proofs.net_input.read_net_text.Goals as goal

pub returns-in-TooLong-clause-read : goal.returns-in-TooLong-clause-read
returns-in-TooLong-clause-read g c =
    read_long (left_in g.R.Read.remaining c.args.source.now) (left_in g.R.Read.remaining c.loop-line.source) (left c.next_line.new.self (g.R.Read.remaining c.next_line.new.reader))
    c.loop-line.text.items c.next_line.new.line.items c.loop-line.invariant.read c.in_ok-next_line.field-0 c.in-TooLong.is c.in_ok-next_line.ensures.taken

pub returns-then-is_bar-clause-read : goal.returns-then-is_bar-clause-read
returns-then-is_bar-clause-read g c =
    read_bar (left_in g.R.Read.remaining c.args.source.now) (left_in g.R.Read.remaining c.loop-line.source) (left c.next_line.new.self (g.R.Read.remaining c.next_line.new.reader))
    c.loop-line.text c.next_line.new.line.items c.in-Line.ended MAX_TEXT c.loop-line.invariant.read c.in_ok-next_line.field-0 c.in-Line.is c.in_ok-next_line.ensures.taken
    (ap is_bar (sym c.deref.ensures.value) ∙ sym c.is_bar.ensures ∙ c.if-is_bar.true)

pub loop-line-preserved : goal.loop-line-preserved
loop-line-preserved g c =
    let more = read_more (left_in g.R.Read.remaining c.args.source.now) (left_in g.R.Read.remaining c.loop-line.source) (left c.next_line.new.self (g.R.Read.remaining c.next_line.new.reader))
    c.loop-line.text.items c.next_line.new.line.items c.in-Line.ended MAX_TEXT c.loop-line.invariant.read c.in_ok-next_line.field-0 c.in-Line.is c.in_ok-next_line.ensures.taken
    (ap is_bar (sym c.deref.ensures.value) ∙ sym c.is_bar.ensures ∙ c.if-is_bar.false) in
    let text = c.in_ok-append-in-Line.ensures ∙ ap (λ bytes. c.loop-line.text.items ++ whole_line (record { bytes = bytes; ended = c.in-Line.ended })) c.deref-in-Line.ensures.value in
    let before = c.loop-line.invariant.fewer in
    let fewer = c.in_ok-next_line.ensures.fewer in
    let so_far = c.loop-line.invariant.less in
    let less = lessened c.in_ok-next_line.field-0 c.in-Line.ended c.in-Line.is c.in_ok-next_line.ensures.less in
    record {
      read = subst (HasRead (left_in g.R.Read.remaining c.args.source.now) (left c.next_line.new.self (g.R.Read.remaining c.next_line.new.reader))) (sym text) more;
      short = search (rules, arith, c.if-len-gt-MAX_TEXT.false, c.len.ensures);
      less = omega arith;
      fewer = omega arith;
    }

pub returns-then-len-gt-MAX_TEXT-clause-read : goal.returns-then-len-gt-MAX_TEXT-clause-read
returns-then-len-gt-MAX_TEXT-clause-read g c =
    let more = read_more (left_in g.R.Read.remaining c.args.source.now) (left_in g.R.Read.remaining c.loop-line.source) (left c.next_line.new.self (g.R.Read.remaining c.next_line.new.reader))
    c.loop-line.text.items c.next_line.new.line.items c.in-Line.ended MAX_TEXT c.loop-line.invariant.read c.in_ok-next_line.field-0 c.in-Line.is c.in_ok-next_line.ensures.taken
    (ap is_bar (sym c.deref.ensures.value) ∙ sym c.is_bar.ensures ∙ c.if-is_bar.false) in
    let text = c.in_ok-append-in-Line.ensures ∙ ap (λ bytes. c.loop-line.text.items ++ whole_line (record { bytes = bytes; ended = c.in-Line.ended })) c.deref-in-Line.ensures.value in
    let now = subst (HasRead (left_in g.R.Read.remaining c.args.source.now) (left c.next_line.new.self (g.R.Read.remaining c.next_line.new.reader))) (sym text) more in
    let many : MAX_TEXT < length c.append.new.text.items = search (rules, arith, c.if-len-gt-MAX_TEXT.true, c.len.ensures) in
    read_over (left_in g.R.Read.remaining c.args.source.now) (left c.next_line.new.self (g.R.Read.remaining c.next_line.new.reader)) c.append.new.text.items now many
