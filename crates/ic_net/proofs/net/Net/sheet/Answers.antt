use Rattle.std.proofs.Common.{sym, subst}
use Rattle.ic_theory.specs.Listed.{ListedNet}
use Rattle.ic_net.specs.Placed.{HasNames}
use Rattle.ic_net.proofs.net.Net.sheet.Goals as goal

pub place_agents-requires : goal.place_agents-requires
place_agents-requires c = (subst (λ (l : ListedNet). HasNames c.args.names.now l) (sym c.self.view_is) c.requires).agents
