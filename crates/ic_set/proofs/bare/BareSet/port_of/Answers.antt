use Rattle.std.proofs.Common.{refl, sym, subst}
use Rattle.ic_path.specs.Orders.{IsIn}
use Rattle.ic_set.specs.Reading.{IsPortAt}
use Rattle.ic_set.specs.Views.{NamedView}
use Rattle.ic_set.proofs.bare.BareSet.port_of.Goals as goal

pub unreachable-requires : goal.unreachable-requires
unreachable-requires g c =
    let at = subst (λ x. IsPortAt c.args.self.now.set x c.requires.0) c.in-Agent.is c.requires.1 in
    c.in_default.ensures.absent at.0 (subst (λ (w : NamedView). IsIn at.0 w.set.agents) (sym c.self.view_is) at.1) at.2

pub returns-in-Some-clause-port : goal.returns-in-Some-clause-port
returns-in-Some-clause-port g c = rw (c.in-Agent.is, ← c.self.view_is) (_, c.in-Some.ensures.found, refl, refl)
