use Rattle.std.proofs.Common.{map, take, arith}
use Rattle.std.proofs.lemmas.List.{length-map, length-take}
use Rattle.ic_net.specs.Placed.{listed_at}
use Rattle.ic_text.proofs.Numbering.{whole_placed}
use Rattle.ic_text.proofs.WireCounts.{few_numbers}
use Rattle.ic_text.proofs.print.numbers.number_wires.Goals as goal

pub enter_line-requires-clause-whole : goal.enter_line-requires-clause-whole
enter_line-requires-clause-whole c = whole_placed c.args.lists.now.names.now c.args.lists.now.agents.now c.loop-line.line _ c.loop-line-test.true c.requires.wired.whole

pub enter_line-requires-clause-room : goal.enter_line-requires-clause-room
enter_line-requires-clause-room c =
    let agents = c.args.lists.now.agents.now in
    let shown = listed_at c.args.lists.now.names.now in
    let few = few_numbers (map shown (take c.loop-line.line agents)) in
    let many = length-map (take c.loop-line.line agents) shown in
    let so_far = length-take c.loop-line.line agents in
    omega (arith, few, many, so_far, c.loop-line.invariant.0.count, c.loop-line-test.true, c.requires.few)
