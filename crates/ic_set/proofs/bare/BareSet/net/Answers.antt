use Rattle.std.proofs.Common.{sym, subst}
use Rattle.ic_theory.specs.Listed.{ListedNet, shown}
use Rattle.ic_theory.specs.Nets.{IsSameNet}
use Rattle.ic_set.specs.Reading.{net_in}
use Rattle.ic_set.specs.Views.{standing}
use Rattle.ic_set.proofs.SetNets.{causal_defined, causal_net}
use Rattle.ic_set.proofs.bare.BareSet.net.Goals as goal

pub returns-clause-defined : goal.returns-clause-defined
returns-clause-defined g c = λ order a after. causal_defined c.args.self.now.set.start c.lawful.ensures.set.proper (standing c.args.self.now.set) c.lawful.ensures.set.sound order a after

pub returns-clause-left : goal.returns-clause-left
returns-clause-left g c = subst (λ (n : ListedNet). IsSameNet (shown n) (net_in c.args.self.now.set)) (sym c.in_ok-net.ensures) c.in_ok-sheet.ensures.net

pub returns-clause-every_order : goal.returns-clause-every_order
returns-clause-every_order g c = λ order a after. causal_net c.args.self.now.set.start c.lawful.ensures.set.proper (standing c.args.self.now.set) c.lawful.ensures.set.sound order a after (shown c.in_ok-net.net)
    (subst (λ (n : ListedNet). IsSameNet (shown n) (net_in c.args.self.now.set)) (sym c.in_ok-net.ensures) c.in_ok-sheet.ensures.net)
