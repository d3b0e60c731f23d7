use Rattle.std.proofs.Common.{refl, sym, subst, ◌∙◌}
use Rattle.ic_name.specs.declared.ids.Spot.TheVariants as spot
use Rattle.ic_cause.proofs.SameEnds.{degree_is}
use Rattle.ic_set.specs.Sets.{IsKept}
use Rattle.ic_set.specs.Views.{NamedView, standing}
use Rattle.ic_set.proofs.bare.BareSet.name_spot.Goals as goal

pub returns-then-degree-ne1-clause-absent : goal.returns-then-degree-ne1-clause-absent
returns-then-degree-ne1-clause-absent g c =
    let ls = g.L.LinkStore.links c.self.inside.store in
    let v = c.args.self.now.set in
    let k = subst (λ (w : NamedView). IsKept w.set ls) c.self.view_is c.self.invariant in
    let same = degree_is k.naming v.start (standing v) ls k.shows (spot.Name c.args.number) refl in
    λ one. c.if-degree-ne1.true (c.degree.ensures ∙ same ∙ one)

pub returns-clause-found : goal.returns-clause-found
returns-clause-found g c =
    let ls = g.L.LinkStore.links c.self.inside.store in
    let v = c.args.self.now.set in
    let k = subst (λ (w : NamedView). IsKept w.set ls) c.self.view_is c.self.invariant in
    let same = degree_is k.naming v.start (standing v) ls k.shows (spot.Name c.args.number) refl in
    (refl, sym same ∙ sym c.degree.ensures ∙ c.if-degree-ne1.false)
