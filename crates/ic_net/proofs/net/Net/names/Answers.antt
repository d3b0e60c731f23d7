use Rattle.std.proofs.Common.{subst, map}
use Rattle.std.proofs.lemmas.List.Elements.{All-weaker}
use Rattle.ic_theory.specs.Listed.{ListedNet}
use Rattle.ic_net.specs.Sheets.{listed_agent}
use Rattle.ic_net.specs.Placed.{HasNames, HasAgentNames}
use Rattle.ic_net.proofs.PlacedNames.{agent_kept}
use Rattle.ic_net.proofs.net.Net.names.Goals as goal

-- the names that are entered for the free names leave those of the agents
pub returns : goal.returns
returns c =
    let first = c.enter_agents.new.names in
    let names = c.enter_frees.new.names in
    subst (λ (l : ListedNet). HasNames names l) c.self.view_is (record {
      agents = All-weaker (HasAgentNames first) (HasAgentNames names) (agent_kept first names c.enter_frees.ensures.kept) (map listed_agent c.self.inside.agents.entries) c.in_ok-enter_agents.ensures.entered;
      frees = c.in_ok-enter_frees.ensures.entered;
    })
