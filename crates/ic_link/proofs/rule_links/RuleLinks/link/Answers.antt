use Rattle.ic_link.proofs.InPlace.{in_at}
use Rattle.ic_link.proofs.rule_links.RuleLinks.link.Goals as goal

pub port-port_a-requires : goal.port-port_a-requires
port-port_a-requires c = (c.requires.digits _ (in_at c.args.self.now.ends.now c.args.place _ c.requires.inside)).0

pub port-port_b-requires : goal.port-port_b-requires
port-port_b-requires c = (c.requires.digits _ (in_at c.args.self.now.ends.now c.args.place _ c.requires.inside)).1
