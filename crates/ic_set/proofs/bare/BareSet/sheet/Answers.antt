use Rattle.std.proofs.Common.{sym, subst, ◌∙◌}
use Rattle.ic_theory.specs.Listed.{ListedNet, shown}
use Rattle.ic_theory.specs.Nets.{IsSameNet}
use Rattle.ic_net.proofs.Makings.{sound_reached}
use Rattle.ic_set.specs.Reading.{net_in}
use Rattle.ic_set.specs.Views.{standing}
use Rattle.ic_set.proofs.ReadNets.{net_read}
use Rattle.ic_set.proofs.bare.BareSet.sheet.Goals as goal

pub finish-requires-clause-reached : goal.finish-requires-clause-reached
finish-requires-clause-reached g c =
    sound_reached c.args.self.now.set.start (standing c.args.self.now.set) c.lawful.ensures.set.proper c.lawful.ensures.set.sound _
    (net_read c.args.self.now _ c.self.view_is _ c.self.invariant c.put_frees.new.maker c.rings-rings.result _ c.in_ok-put_frees.ensures.agents c.in_ok-put_agents.ensures.agents
    c.in_ok-put_frees.ensures.frees c.rings-rings.ensures (c.in_ok-put_frees.ensures.profile ∙ c.in_ok-put_agents.ensures.profile ∙ c.new-maker.ensures.profile ∙ c.profile.ensures))

pub returns-clause-net : goal.returns-clause-net
returns-clause-net g c =
    subst (λ (n : ListedNet). IsSameNet (shown n) (net_in c.args.self.now.set)) (sym c.finish.ensures.sheet)
    (net_read c.args.self.now _ c.self.view_is _ c.self.invariant c.put_frees.new.maker c.rings-rings.result _ c.in_ok-put_frees.ensures.agents c.in_ok-put_agents.ensures.agents
    c.in_ok-put_frees.ensures.frees c.rings-rings.ensures (c.in_ok-put_frees.ensures.profile ∙ c.in_ok-put_agents.ensures.profile ∙ c.new-maker.ensures.profile ∙ c.profile.ensures))
