use Rattle.std.proofs.Common.{arith}
use Rattle.std.proofs.lemmas.Option.{slice_get_within}
use Rattle.ic_text.proofs.NameLines.{line_put}
use Rattle.ic_text.proofs.print.agent_lines.LinesByName.of.Goals as goal

pub loop-line-preserved : goal.loop-line-preserved
loop-line-preserved c = record {
  room = omega (arith, c.put.ensures.same_length, c.loop-line.invariant.room);
  lines = line_put c.args.lists.now c.requires c.loop-line.slots c.put.new.self c.loop-line.line _ c.loop-line-test.true c.put.ensures.put c.loop-line.invariant.lines;
}

pub returns : goal.returns
returns c = λ k a at_k. let within = slice_get_within c.args.lists.now.agents.now k a at_k in c.loop-line.invariant.lines k a (omega (arith, within, c.loop-line-test.false)) at_k
