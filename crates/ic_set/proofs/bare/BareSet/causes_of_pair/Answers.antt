use Rattle.std.proofs.Common.{List, subst}
use Rattle.std.proofs.lemmas.Result.{IfOk-weaker}
use Rattle.ic_name.specs.Events.{Event}
use Rattle.ic_name.specs.declared.ids.LinkId.{LinkId}
use Rattle.ic_name.specs.declared.ids.Spot.TheVariants as spot
use Rattle.ic_link.specs.Links.{Joins}
use Rattle.ic_cause.specs.Makers.{AreMakers}
use Rattle.ic_set.specs.Views.{NamedView}
use Rattle.ic_set.specs.Sets.{IsKept}
use Rattle.ic_set.specs.Admission.{AreCausesOf}
use Rattle.ic_set.specs.Pairs.{IsPairOf}
use Rattle.ic_set.proofs.PairPaths.{lead_degree, pair_joined, pair_causes}
use Rattle.ic_set.proofs.bare.BareSet.causes_of_pair.Goals as goal

pub direct_causes-requires-clause-loose : goal.direct_causes-requires-clause-loose
direct_causes-requires-clause-loose g c =
    let ls = g.L.LinkStore.links c.self.inside.store in
    let k = subst (λ (w : NamedView). IsKept w.set ls) c.self.view_is c.self.invariant in
    lead_degree c.args.self.now.set ls k c.requires.0 c.args.pair c.requires.1

pub direct_causes-requires-clause-joined : goal.direct_causes-requires-clause-joined
direct_causes-requires-clause-joined g c =
    let ls = g.L.LinkStore.links c.self.inside.store in
    let k = subst (λ (w : NamedView). IsKept w.set ls) c.self.view_is c.self.invariant in
    pair_joined c.args.self.now.set ls k c.requires.0 c.args.pair c.requires.1 c.lawful.ensures.slim

pub returns : goal.returns
returns g c =
    let ls = g.L.LinkStore.links c.self.inside.store in
    let k = subst (λ (w : NamedView). IsKept w.set ls) c.self.view_is c.self.invariant in
    IfOk-weaker _ (λ causes. (ids : List LinkId) × Joins ls (spot.Agent c.args.pair.lead 0) ids (spot.Agent c.args.pair.other 0) × AreMakers ids causes.items)
    (λ causes. (e : Event) → IsPairOf c.args.self.now.set e c.args.pair → AreCausesOf c.args.self.now.set e causes.items)
    (λ causes w e h. pair_causes c.args.self.now.set ls k e c.args.pair h w.0 causes.items w.1 w.2) c.direct_causes.ensures
