use Rattle.std.proofs.Common.{◌∙◌}
use Rattle.ic_name.specs.declared.rules.RuleEnd.TheVariants.{Lead}
use Rattle.ic_net.proofs.Rewirings.{link_taken, ends_at}
use Rattle.ic_net.proofs.rewiring.Rewiring.of_event.Goals as goal

pub loop-a-preserved : goal.loop-a-preserved
loop-a-preserved c = record {
  taken = link_taken c.args.event.now c.args.links.now c.loop-a.a-index _ _ _ c.loop-a-test.true c.in_ok-take.ensures.taken ∙ c.loop-a.invariant.taken;
  small = (ends_at c.args.links.now c.loop-a.a-index (Lead 0, Lead 0) c.loop-a-test.true c.loop-a.invariant.small).2;
  few = c.in_ok-take.ensures.few;
}
