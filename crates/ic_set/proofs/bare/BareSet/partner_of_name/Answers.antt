use Rattle.std.proofs.Common.{◌≡◌, None, Some, sym, subst}
use Rattle.ic_name.specs.declared.ports.Port.TheVariants as port
use Rattle.ic_net.specs.Placed.{port_at}
use Rattle.ic_set.specs.Reading.{net_in, IsPortAt}
use Rattle.ic_set.specs.Views.{NamedView}
use Rattle.ic_set.proofs.ReadNets.{name_leads, name_none}
use Rattle.ic_set.proofs.bare.BareSet.partner_of_name.Goals as goal

pub returns-in_default-clause-partner : goal.returns-in_default-clause-partner
returns-in_default-clause-partner g c =
    subst (λ (w : NamedView). None ≡ (net_in w.set).partner (port.Name c.args.number)) c.self.view_is
    (name_none _ _ c.self.invariant c.args.number c.far.result c.far.ensures (λ q e. c.in_default.not-End q e))

pub port_of-requires : goal.port_of-requires
port_of-requires g c =
    rw (← c.self.view_is) (name_leads _ _ c.self.invariant c.args.number c.far.result c.far.ensures c.in-End.spot c.in-End.is).0

pub returns-clause-partner : goal.returns-clause-partner
returns-clause-partner g c =
    let far = port_at c.args.self.now.names c.port_of.result in
    let at = subst (λ (w : NamedView). IsPortAt w.set c.in-End.spot far) (sym c.self.view_is) c.port_of.ensures.port in
    subst (λ (w : NamedView). Some far ≡ (net_in w.set).partner (port.Name c.args.number)) c.self.view_is
    (sym ((name_leads _ _ c.self.invariant c.args.number c.far.result c.far.ensures c.in-End.spot c.in-End.is).1 far at))
