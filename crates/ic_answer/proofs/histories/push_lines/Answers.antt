use Rattle.std.proofs.Common.{◌≡◌, rules, get_or}
use Rattle.ic_answer.proofs.HistoryLines.{line_more}
use Rattle.ic_answer.proofs.histories.push_lines.Goals as goal

pub loop-number-preserved : goal.loop-number-preserved
loop-number-preserved c =
    let is : c.index-lines-number.result ≡ get_or c.args.lines.now c.loop-number.number c.index-lines-number.result = search rules in
    line_more c.args.lines.now c.loop-number.number c.index-lines-number.result c.args.text.now.items c.loop-number.text.items c.push_numbered.new.text.items c.loop-number-test.true is c.loop-number.invariant c.in_ok-push_numbered.ensures
