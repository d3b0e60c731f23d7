use Rattle.std.proofs.Common.{ap, ◌∙◌}
use Rattle.std.specs.Prelude.{unwrap_or}
use Rattle.ic_text.specs.Lists.{agent_on}
use Rattle.ic_text.proofs.NameLines.{listed_there, port_within}
use Rattle.ic_text.proofs.print.numbered.NumberedAgents.number.Goals as goal

pub returns : goal.returns
returns c =
    let lists = c.args.self.now.lists in
    let agent = c.args.agent.now in
    let place = c.args.self.now.numbering.places agent.line c.args.port (agent_on lists agent) (listed_there lists agent.line agent.agent.now c.requires.placed) (port_within lists agent c.args.port c.requires.port) in
    c.unwrap_or.ensures ∙ ap (λ o. unwrap_or o 0) (c.number_at.ensures ∙ place)
