use Rattle.std.proofs.Common.{◌≡◌, ◌+◌, List, length, sym, ap, ◌∙◌, arith}
use Rattle.ic_shared.specs.Agrees.{Agrees, IsFalseAt}
use Rattle.ic_shared.specs.Faults.{told_by}
use Rattle.ic_shared.specs.Openings.{OpeningView}
use Rattle.ic_shared.specs.Passes.{PassView, added_by_all}
use Rattle.ic_shared.proofs.Agreeing.{of_opening, put_back}
use Rattle.ic_shared.proofs.settling.settle.Goals as goal

pub compare-requires-clause-counted : goal.compare-requires-clause-counted
compare-requires-clause-counted g c =
    let len = sym (ap length c.as_mut_slice.ensures.value) ∙ c.as_mut_slice.ensures.len in
    let seen = c.as_slice.ensures.value ∙ put_back c.audit.new.passes c.args.passes.items c.args.passes.len (c.audit.ensures.passes ∙ c.as_mut_slice.ensures.value) len in
    let parts = c.opening.invariant.0 in
    let cut = c.opening.inside.count.all in
    let every = c.len.ensures in
    let given = c.if-len-count.false in
    let total = c.audit.ensures.total (omega arith) in
    let opened = c.opening.invariant.1 in
    let same = ap added_by_all (c.as_mut_slice.ensures.value ∙ sym seen) in
    let kept = c.into_locked-bench.result.counted in
    omega arith

pub returns-in-Ok-clause-ok : goal.returns-in-Ok-clause-ok
returns-in-Ok-clause-ok g c =
    let len = sym (ap length c.as_mut_slice.ensures.value) ∙ c.as_mut_slice.ensures.len in
    let seen = c.as_slice.ensures.value ∙ put_back c.audit.new.passes c.args.passes.items c.args.passes.len (c.audit.ensures.passes ∙ c.as_mut_slice.ensures.value) len in
    of_opening (λ (o : OpeningView) (ps : List PassView). Agrees o ps c.into_locked-bench.result.bench c.in-Ok.lines) c.args.opening c.args.passes.items c.as_slice.result.now c.opening.inside.start c.opening.inside.lines c.opening.inside.count.passes
    seen (len ∙ sym c.len.ensures ∙ c.if-len-count.false) c.opening.view_is c.in-Ok.ensures.ok

pub returns-clause-err : goal.returns-clause-err
returns-clause-err g c =
    let len = sym (ap length c.as_mut_slice.ensures.value) ∙ c.as_mut_slice.ensures.len in
    let seen = c.as_slice.ensures.value ∙ put_back c.audit.new.passes c.args.passes.items c.args.passes.len (c.audit.ensures.passes ∙ c.as_mut_slice.ensures.value) len in
    let every = len ∙ sym c.len.ensures ∙ c.if-len-count.false in
    let parts = c.opening.invariant.0 in
    let cut = c.opening.inside.count.all in
    let total = c.audit.ensures.total (omega arith) in
    let opened = c.opening.invariant.1 in
    let same = ap added_by_all (c.as_mut_slice.ensures.value ∙ sym seen) in
    let kept = c.into_locked-bench.result.counted in
    let counted : length c.into_locked-bench.result.bench.lines ≡ length c.opening.inside.lines + added_by_all c.as_slice.result.now = omega arith in (
      every ∙ ap (λ o. o.passes) c.opening.view_is,
      of_opening (λ (o : OpeningView) (ps : List PassView). length c.into_locked-bench.result.bench.lines ≡ told_by o ps) c.args.opening c.args.passes.items c.as_slice.result.now c.opening.inside.start c.opening.inside.lines c.opening.inside.count.passes
          seen every c.opening.view_is counted,
      of_opening (λ (o : OpeningView) (ps : List PassView). IsFalseAt o ps c.into_locked-bench.result.bench c.in-Err.wrong) c.args.opening c.args.passes.items c.as_slice.result.now c.opening.inside.start c.opening.inside.lines c.opening.inside.count.passes
          seen every c.opening.view_is c.in-Err.ensures.err,
    )
