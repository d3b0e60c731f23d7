use Rattle.std.proofs.Common.{List, refl, sym, subst}
use Rattle.ic_names.specs.declared.table.NameId.{NameId}
use Rattle.ic_path.specs.Orders.{IsIn}
use Rattle.ic_undo.specs.Among.{names_at}
use Rattle.ic_undo.proofs.StayedBenches.{unchanged}
use Rattle.ic_undo.proofs.StoodSince.{outside_changed, missing_changed}
use Rattle.ic_undo.proofs.WaysBack.{nothing_done}
use Rattle.ic_undo.proofs.going_back_since.back_since.Goals as goal

pub returns-in_default-clause-fault : goal.returns-in_default-clause-fault
returns-in_default-clause-fault g c = nothing_done c.args.bench.now c.lawful.ensures c.args.mark.now c.requires.start c.lawful-2.ensures c.args.bench.now (unchanged c.args.bench.now)

pub differences_among-requires-clause-outside : goal.differences_among-requires-clause-outside
differences_among-requires-clause-outside g c = λ x i out.
    subst (λ (leads : List NameId). IsIn x.event.lead (names_at c.args.bench.now.names leads)) (sym c.deref.ensures.value)
    ((c.in-Ok.ensures.each x.event.lead).1 (x.event, outside_changed c.args.bench.now c.lawful.ensures c.args.mark.now c.args.since c.requires.stood x i out, refl))

pub differences_among-requires-clause-missing : goal.differences_among-requires-clause-missing
differences_among-requires-clause-missing g c = λ e missing.
    subst (λ (leads : List NameId). IsIn e.lead (names_at c.args.bench.now.names leads)) (sym c.deref.ensures.value)
    ((c.in-Ok.ensures.each e.lead).1 (e, missing_changed c.args.bench.now c.lawful.ensures c.args.mark.now c.args.since c.requires.stood e missing, refl))

pub returns-in_default-differences_among-clause-fault : goal.returns-in_default-differences_among-clause-fault
returns-in_default-differences_among-clause-fault g c = nothing_done c.args.bench.now c.lawful.ensures c.args.mark.now c.requires.start c.lawful-2.ensures c.args.bench.now (unchanged c.args.bench.now)
