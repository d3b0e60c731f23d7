use Rattle.std.proofs.Common.{refl, ◌∙◌}
use Rattle.ic_set.proofs.RemovedAgents.{next_gone, all_gone}
use Rattle.ic_set.proofs.entering.remove_all.Goals as goal

pub loop-id-init : goal.loop-id-init
loop-id-init c = record { left = λ gone left e a. (gone, e, a); names = refl; events = refl }

pub loop-id-preserved : goal.loop-id-preserved
loop-id-preserved c = record {
  left = λ gone left e a.
      (let r = c.loop-id.invariant.left gone left e a in next_gone r.0 left _ _ c.args.ids.now c.loop-id.id-index (record { slot = 0; serial = 0 }) c.loop-id-test.true r.1 r.2 c.remove_agent.ensures.gone);
  names = c.remove_agent.ensures.names ∙ c.loop-id.invariant.names;
  events = c.remove_agent.ensures.events ∙ c.loop-id.invariant.events;
}

pub returns-clause-left : goal.returns-clause-left
returns-clause-left c = λ gone left e a.
    (let r = c.loop-id.invariant.left gone left e a in all_gone r.0 left _ c.args.ids.now c.loop-id.id-index c.loop-id-test.false r.1 r.2)
