use Rattle.std.proofs.Common.{◌∙◌, sym, arith, refl}
use Rattle.std.proofs.lemmas.Result.{err_from_is_err_and}
use Rattle.ic_text.proofs.Steps.{run_more, run_ends, fails}
use Rattle.ic_text.proofs.Within.{within_start, within_later, within_next}
use Rattle.ic_text.proofs.read.read.Goals as goal

pub loop-at-init : goal.loop-at-init
loop-at-init c =
    let new = c.new-lexer.ensures in
    record {
      so_far = rw (new.tokens, c.in_ok-builder.ensures) refl;
      room = omega (arith, new.at, new.rest);
      within = rw (c.in_ok-builder.ensures, new.at) within_start;
      short = omega (arith, c.if-text-gt-MAX_TEXT.false);
    }

pub loop-at-preserved : goal.loop-at-preserved
loop-at-preserved c =
    let i = c.loop-at.invariant in
    let went = c.in_ok-take.ensures in
    let ahead = c.in-Some.ensures.ahead in
    record {
      so_far = sym (run_more _ _ _ _ _ _ c.in-Some.ensures.taken went) ∙ i.so_far;
      room = omega (arith, c.in-Some.ensures.room, i.room);
      within = within_next _ _ _ _ _ went (within_later _ _ _ i.within ahead.0) ahead.1;
      short = i.short;
    }

pub take-requires-clause-within : goal.take-requires-clause-within
take-requires-clause-within c = within_later _ _ _ c.loop-at.invariant.within c.in-Some.ensures.ahead.0

pub finish-requires-clause-within : goal.finish-requires-clause-within
finish-requires-clause-within c = within_later _ _ _ c.loop-at.invariant.within (omega (arith, c.loop-at.invariant.room))

pub finish-requires-clause-read : goal.finish-requires-clause-read
finish-requires-clause-read c = sym c.loop-at.invariant.so_far ∙ run_ends _ _ c.in_default.ensures.taken

pub returns-in_err-take : goal.returns-in_err-take
returns-in_err-take c =
    let p = err_from_is_err_and c.from_residual-in_err-take.result c.from_residual-in_err-take.ensures.1 in
    let i = c.loop-at.invariant in
    rw (p.1, p.2) (fails c.in_err-take.field-0.0 _ _ _ _ _ c.args.text.now c.in-Some.ensures.taken c.in_err-take.ensures i.so_far i.short)
