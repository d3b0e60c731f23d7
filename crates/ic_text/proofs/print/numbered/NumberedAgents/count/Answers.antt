use Rattle.std.proofs.Common.{arith}
use Rattle.std.proofs.lemmas.List.{length-map}
use Rattle.ic_net.specs.Placed.{listed_at}
use Rattle.ic_text.specs.Lists.{agents_of}
use Rattle.ic_text.proofs.WireCounts.{few_numbers}
use Rattle.ic_text.proofs.print.numbered.NumberedAgents.count.Goals as goal

pub returns-clause-few : goal.returns-clause-few
returns-clause-few c =
    let lists = c.args.self.now.lists in
    let few = few_numbers (agents_of lists) in
    let many = length-map lists.agents.now (listed_at lists.names.now) in
    omega (arith, c.args.self.now.numbering.count)
