use Rattle.std.proofs.Common.{[], refl, arith}
use Rattle.ic_command.proofs.FirstLines.{front_whole, front_part}
use Rattle.ic_command.proofs.Taken.{same_behind, skipped_whole, skipped_part, skipped_end}
use Rattle.ic_command.proofs.Work.{filled_less}
use Rattle.ic_command.proofs.lines.input.Input.skip_line.Goals as goal

pub loop-self-init : goal.loop-self-init
loop-self-init g c = record { same = same_behind _; less = omega arith; fewer = omega arith }

pub loop-self-preserved : goal.loop-self-preserved
loop-self-preserved g c =
    let part = front_part c.loop-self.self.buffer.items c.unread-bytes.result.now [] _ _ c.line_len-count.result _ c.unread-bytes.ensures c.line_len-count.ensures.length c.if-count-bytes.false refl refl in
    let once = filled_less c.loop-self.self c.fill.new.self c.in_ok-fill.ensures.counted in
    let before = c.loop-self.invariant.less in
    let fewer = c.loop-self.invariant.fewer in
    let counted = c.in_ok-fill.ensures.counted in
    record { same = skipped_part _ _ _ _ _ c.loop-self.invariant.same part.0 c.in_ok-fill.ensures.filled.0; less = omega arith; fewer = omega arith }

pub returns-then-count-bytes-clause-skipped : goal.returns-then-count-bytes-clause-skipped
returns-then-count-bytes-clause-skipped g c =
    let whole = front_whole c.loop-self.self.buffer.items c.unread-bytes.result.now [] _ _ c.line_len-count.result c.unread-bytes.ensures c.line_len-count.ensures.length c.if-count-bytes.true refl in
    skipped_whole _ _ _ _ c.loop-self.invariant.same whole.0 whole.2

pub returns-then-not-branch-clause-skipped : goal.returns-then-not-branch-clause-skipped
returns-then-not-branch-clause-skipped g c =
    let part = front_part c.loop-self.self.buffer.items c.unread-bytes.result.now [] _ _ c.line_len-count.result _ c.unread-bytes.ensures c.line_len-count.ensures.length c.if-count-bytes.false refl refl in
    let filled = rw c.if-not-branch.true at c.in_ok-fill.ensures.filled in
    skipped_end _ _ _ (skipped_part _ _ _ _ _ c.loop-self.invariant.same part.0 filled.0) filled.1.0 filled.1.1
