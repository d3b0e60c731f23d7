use Rattle.std.proofs.Common.{List}
use Rattle.std.proofs.lemmas.Result.{IfOk-weaker}
use Rattle.ic_name.specs.declared.ids.LinkId.{LinkId}
use Rattle.ic_name.specs.declared.ids.Spot.{Spot}
use Rattle.ic_name.specs.declared.ids.Spot.TheVariants as spot
use Rattle.ic_link.specs.Links.{Joins}
use Rattle.ic_cause.specs.Makers.{AreMakers}
use Rattle.ic_cause.proofs.PathEnds.{one_end}
use Rattle.ic_cause.proofs.makers.direct_causes.Goals as goal

pub returns : goal.returns
returns g c =
    let ls = g.L.LinkStore.links c.args.store.now in
    IfOk-weaker c.path_makers.result
    (λ makers. (ids : List LinkId) × ((q : Spot) × Joins ls (spot.Agent c.args.a 0) ids q) × AreMakers ids makers.items)
    (λ makers. (ids : List LinkId) × Joins ls (spot.Agent c.args.a 0) ids (spot.Agent c.args.b 0) × AreMakers ids makers.items)
    (λ makers w. (w.0, one_end ls _ _ _ _ _ c.lawful.ensures.slim c.requires.loose w.1.1 c.requires.joined.1, w.2)) c.path_makers.ensures
