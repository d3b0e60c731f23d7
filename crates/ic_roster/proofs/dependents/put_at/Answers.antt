use Rattle.std.proofs.Common.{◌<◌, subst, sym, ◌∷◌}
use Rattle.std.specs.Option.{IsSomeAnd}
use Rattle.ic_path.specs.Orders.{Alike}
use Rattle.ic_path.proofs.Alikes.{alike_back}
use Rattle.ic_path.proofs.ListEnds.{last_first}
use Rattle.ic_roster.specs.RecordChanges.{Puts}
use Rattle.ic_roster.proofs.RecordFacts.{changes_after}
use Rattle.ic_roster.proofs.dependents.put_at.Goals as goal

pub push_dependent-requires : goal.push_dependent-requires
push_dependent-requires c = subst (λ o. IsSomeAnd o (λ r. 0 < r.spare)) (sym c.in-Some.ensures.value) c.requires

pub returns-in-Some-clause-changed : goal.returns-in-Some-clause-changed
returns-in-Some-clause-changed c =
    let slots = c.args.records.now.slots in
    let old = c.in-Some.record.now in
    changes_after slots c.args.cause old _ c.in-Some.ensures.value c.push_dependent.ensures.same (Puts c.args.event)
    (subst (λ ks. Alike (c.args.event ∷ old.dependents) ks) (sym c.push_dependent.ensures.dependents) (alike_back (last_first c.args.event old.dependents)))
