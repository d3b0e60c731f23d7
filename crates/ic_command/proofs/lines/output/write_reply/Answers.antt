use Rattle.std.proofs.Common.{ap, sym, ◌∙◌, ◌++◌, take}
use Rattle.std.proofs.Math.Seq.{take-add}
use Rattle.ic_command.proofs.Writes.{appends_more, suffix, within_more, nothing_more, kept_front}
use Rattle.ic_command.proofs.lines.output.write_reply.Goals as goal

pub loop-done-preserved : goal.loop-done-preserved
loop-done-preserved g c =
    let i = c.loop-done.invariant in
    record {
      written = appends_more _ _ _ _ _ _ i.written c.in-Ok.ensures.bytes (take-add c.loop-done.done c.in-Ok.count c.args.bytes.now ∙ ap (λ ys. take c.loop-done.done c.args.bytes.now ++ take c.in-Ok.count ys) (sym (suffix c.args.bytes.now c.loop-done.done)));
      within = within_more c.args.bytes.now c.loop-done.done c.in-Ok.count i.within c.in-Ok.ensures.bound;
    }

pub returns-in_default-clause-front : goal.returns-in_default-clause-front
returns-in_default-clause-front g c = kept_front _ _ _ c.args.bytes.now c.loop-done.done c.loop-done.invariant.written c.in_default.ensures.bytes

pub returns-then-count-eq0-clause-front : goal.returns-then-count-eq0-clause-front
returns-then-count-eq0-clause-front g c = nothing_more _ _ _ c.args.bytes.now _ c.loop-done.done c.in-Ok.count c.if-count-eq0.true c.loop-done.invariant.written c.in-Ok.ensures.bytes
