use Rattle.std.proofs.Common.{Some, inl, inr, arith, ap}
use Rattle.std.proofs.lemmas.List.{take_all}
use Rattle.ic_path.proofs.Picks.{none_in}
use Rattle.ic_roster.proofs.Options.{if_some}
use Rattle.ic_set.proofs.LookedUp.{led_each}
use Rattle.ic_journal.proofs.TakenElements.{in_taken}
use Rattle.ic_journal.proofs.standing.queue.put_all.Goals as goal

pub loop-agent-init : goal.loop-agent-init
loop-agent-init g c = record { queue = c.requires.queue; stay = λ n i. i; led = λ e p h i. absurd (none_in i); room = omega arith }

pub put_pair-requires-clause-active : goal.put_pair-requires-clause-active
put_pair-requires-clause-active g c = if_some c.led.result (λ p h. h.1) c.led.ensures.found

pub loop-agent-preserved : goal.loop-agent-preserved
loop-agent-preserved g c =
    let i = c.loop-agent.invariant in
    let before = i.room in
    let after = c.put_pair.ensures.room in
    record {
      queue = c.put_pair.ensures.queue;
      stay = λ n j. c.put_pair.ensures.stay n (i.stay n j);
      led = λ e p h j. elim (in_taken c.args.agents.now c.loop-agent.agent-index _ c.loop-agent-test.true j) [
        | inl k ↦ c.put_pair.ensures.stay e.lead (i.led e p h k)
        | inr same ↦ c.put_pair.ensures.led e p h (led_each c.args.set.now.set c.lawful.ensures.set _ c.led.result c.led.ensures.found c.led.ensures.absent e p h (ap Some same))
      ];
      room = omega arith;
    }

pub returns-clause-led : goal.returns-clause-led
returns-clause-led g c =
    let all = take_all c.loop-agent.agent-index c.args.agents.now c.loop-agent-test.false in
    rw all at c.loop-agent.invariant.led
