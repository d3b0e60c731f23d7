use Rattle.std.proofs.Common.{◌≡◌, ◌∙◌, sym, [], arith}
use Rattle.std.proofs.lemmas.Bool.{eqb-true}
use Rattle.ic_command.proofs.Taken.{whole_taken, longer_taken, part_taken, end_taken, no_bytes}
use Rattle.ic_command.proofs.Work.{filled_less, whole_less, part_less, same_work}
use Rattle.ic_command.proofs.lines.input.Input.next_line.Goals as goal

pub returns-in-Whole-clause-taken : goal.returns-in-Whole-clause-taken
returns-in-Whole-clause-taken g c =
    let f = rw c.in-Whole.is at c.in_ok-take_front.ensures.front in
    whole_taken _ _ _ _ _ _ c.args.most c.loop-self.invariant.taken c.loop-self.invariant.one_line f.0 f.1 f.2

pub returns-in-TooLong-clause-taken : goal.returns-in-TooLong-clause-taken
returns-in-TooLong-clause-taken g c =
    let f = rw c.in-TooLong.is at c.in_ok-take_front.ensures.front in
    longer_taken _ _ _ _ _ _ _ c.loop-self.invariant.taken c.loop-self.invariant.one_line f.0 f.1 f.2

pub returns-then-is_empty-clause-taken : goal.returns-then-is_empty-clause-taken
returns-then-is_empty-clause-taken g c =
    let f = rw c.in-Part.is at c.in_ok-take_front.ensures.front in
    let filled = rw c.if-not-branch.true at c.in_ok-fill.ensures.filled in
    let part = part_taken _ _ _ _ [] _ _ _ c.loop-self.invariant.taken c.loop-self.invariant.one_line f.0 f.1 filled.0 in
    let none : c.take_front.new.line.items ≡ [] = no_bytes c.take_front.new.line.items (sym c.take_front.new.line.ok.0 ∙ eqb-true _ 0 (sym c.is_empty.ensures ∙ c.if-is_empty.true)) in
    (end_taken _ _ c.take_front.new.line.items _ c.args.most part.1 part.0 filled.1.0 filled.1.1).0 none

pub returns-else-is_empty-clause-taken : goal.returns-else-is_empty-clause-taken
returns-else-is_empty-clause-taken g c =
    let f = rw c.in-Part.is at c.in_ok-take_front.ensures.front in
    let filled = rw c.if-not-branch.true at c.in_ok-fill.ensures.filled in
    let part = part_taken _ _ _ _ [] _ _ _ c.loop-self.invariant.taken c.loop-self.invariant.one_line f.0 f.1 filled.0 in
    (end_taken _ _ c.take_front.new.line.items _ c.args.most part.1 part.0 filled.1.0 filled.1.1).1

pub loop-self-preserved : goal.loop-self-preserved
loop-self-preserved g c =
    let f = rw c.in-Part.is at c.in_ok-take_front.ensures.front in
    let part = part_taken _ _ _ _ [] _ _ _ c.loop-self.invariant.taken c.loop-self.invariant.one_line f.0 f.1 c.in_ok-fill.ensures.filled.0 in
    let once = filled_less c.take_front.new.self c.fill.new.self c.in_ok-fill.ensures.counted in
    let front = part_less c.loop-self.self c.take_front.new.self c.take_front.ensures.reads f.2 in
    let same = c.take_front.ensures.reads in
    let before = c.loop-self.invariant.less in
    let fewer = c.loop-self.invariant.fewer in
    let counted = c.in_ok-fill.ensures.counted in
    record { short = c.in_ok-take_front.ensures.short; one_line = part.0; taken = part.1; less = omega arith; fewer = omega arith }

pub returns-in-Whole-clause-less : goal.returns-in-Whole-clause-less
returns-in-Whole-clause-less g c =
    let f = rw c.in-Whole.is at c.in_ok-take_front.ensures.front in
    let less = whole_less c.loop-self.self c.take_front.new.self c.take_front.ensures.reads f.0 f.2 in
    let before = c.loop-self.invariant.less in
    omega arith

pub returns-in-TooLong-clause-less : goal.returns-in-TooLong-clause-less
returns-in-TooLong-clause-less g c =
    let f = rw c.in-TooLong.is at c.in_ok-take_front.ensures.front in
    let same = same_work c.loop-self.self c.take_front.new.self c.take_front.ensures.reads f.1 in
    let before = c.loop-self.invariant.less in
    omega arith

pub returns-then-is_empty-clause-less : goal.returns-then-is_empty-clause-less
returns-then-is_empty-clause-less g c =
    let f = rw c.in-Part.is at c.in_ok-take_front.ensures.front in
    let front = part_less c.loop-self.self c.take_front.new.self c.take_front.ensures.reads f.2 in
    let less = filled_less c.take_front.new.self c.fill.new.self c.in_ok-fill.ensures.counted in
    let before = c.loop-self.invariant.less in
    omega arith

pub returns-else-is_empty-clause-less : goal.returns-else-is_empty-clause-less
returns-else-is_empty-clause-less g c =
    let f = rw c.in-Part.is at c.in_ok-take_front.ensures.front in
    let front = part_less c.loop-self.self c.take_front.new.self c.take_front.ensures.reads f.2 in
    let less = filled_less c.take_front.new.self c.fill.new.self c.in_ok-fill.ensures.counted in
    let before = c.loop-self.invariant.less in
    omega arith
