use Rattle.std.proofs.Common.{◌≡◌, ◌+◌, length, map}
use Rattle.std.specs.Prelude.{All}
use Rattle.ic_name.specs.Kinds.{arity}
use Rattle.ic_theory.specs.Listed.{NetAgent}
use Rattle.ic_net.specs.Placed.{listed_at}
use Rattle.ic_text.proofs.Numbering.{whole_placed}
use Rattle.ic_text.proofs.print.put.put_agents.Goals as goal

pub put_line-requires-clause-whole : goal.put_line-requires-clause-whole
put_line-requires-clause-whole c =
    let names = c.args.sheet.now.lists.names.now in
    let agents = c.agents-agent-items.result.now in
    let all : All (λ (a : NetAgent). length a.partners ≡ arity a.kind + 1) (map (listed_at names) agents) = rw c.agents-agent-items.ensures c.requires in
    whole_placed names agents c.loop-line.line _ c.loop-line-test.true all
