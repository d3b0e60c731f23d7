use Rattle.std.proofs.Common.{◌∙◌, ap, sym}
use Rattle.std.specs.Prelude.{option_map}
use Rattle.ic_net.specs.declared.agents.NetAgent.{NetAgent}
use Rattle.ic_net.proofs.Lookups.{found_kind}
use Rattle.ic_net.proofs.net.Net.kind.Goals as goal

pub returns-in-Some : goal.returns-in-Some
returns-in-Some c = rw (← c.self.view_is) (ap (option_map (λ (a : NetAgent). a.kind)) c.in-Some.ensures.value ∙ sym (found_kind c.args.name.now c.self.inside.agents.entries))

pub returns-in-None : goal.returns-in-None
returns-in-None c = rw (← c.self.view_is) (ap (option_map (λ (a : NetAgent). a.kind)) c.in-None.ensures.value ∙ sym (found_kind c.args.name.now c.self.inside.agents.entries))
