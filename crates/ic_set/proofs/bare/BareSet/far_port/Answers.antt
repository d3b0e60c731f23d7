use Rattle.std.proofs.Common.{subst}
use Rattle.ic_set.specs.Sets.{IsKept}
use Rattle.ic_set.specs.Views.{NamedView}
use Rattle.ic_set.proofs.WirePaths.{partner_joined, far_there, far_leads}
use Rattle.ic_set.proofs.bare.BareSet.far_port.Goals as goal

pub unreachable-requires : goal.unreachable-requires
unreachable-requires g c =
    let k = subst (λ (w : NamedView). IsKept w.set (g.L.LinkStore.links c.self.inside.store)) c.self.view_is c.self.invariant in
    let f = far_there _ _ k c.args.spot c.requires.0 c.requires.1 c.far.result c.far.ensures in
    c.in_default.not-End f.0 f.1

pub port_of-requires : goal.port_of-requires
port_of-requires g c =
    let k = subst (λ (w : NamedView). IsKept w.set (g.L.LinkStore.links c.self.inside.store)) c.self.view_is c.self.invariant in
    (far_leads _ _ k c.args.spot c.requires.0 c.requires.1 c.far.result c.far.ensures c.in-End.end c.in-End.is).0

pub returns-clause-wire : goal.returns-clause-wire
returns-clause-wire g c = λ p loose. (
    let k = subst (λ (w : NamedView). IsKept w.set (g.L.LinkStore.links c.self.inside.store)) c.self.view_is c.self.invariant in
    partner_joined _ k.set p _ ((far_leads _ _ k c.args.spot p loose c.far.result c.far.ensures c.in-End.end c.in-End.is).1 _ c.port_of.ensures.port))
