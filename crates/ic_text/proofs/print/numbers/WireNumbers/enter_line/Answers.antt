use Rattle.ic_text.specs.Lists.{agents_of, agent_on}
use Rattle.ic_text.proofs.Numbering.{enters_three}
use Rattle.ic_text.proofs.print.numbers.WireNumbers.enter_line.Goals as goal

pub returns-in-Gamma : goal.returns-in-Gamma
returns-in-Gamma c =
    let lists = c.args.lists.now in
    let one = c.enter_port-in-Gamma in
    let two = c.enter_port-in-Gamma-2 in
    let three = c.enter_port-in-Gamma-3 in
    record {
      entered = enters_three (agents_of lists) (agent_on lists c.args.agent.now) c.args.self.now one.new.self two.new.self three.new.self c.in-Gamma.is one.ensures.entered two.ensures.entered three.ensures.entered;
      places = three.ensures.places;
    }
