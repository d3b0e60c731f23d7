use Rattle.std.proofs.Common.{inl, inr, arith}
use Rattle.std.proofs.lemmas.List.{take_all}
use Rattle.ic_path.proofs.Picks.{none_in}
use Rattle.ic_set.proofs.LookedUp.{active_at}
use Rattle.ic_journal.proofs.TakenElements.{in_taken}
use Rattle.ic_journal.proofs.standing.queue.put_leads.Goals as goal

pub loop-pair-init : goal.loop-pair-init
loop-pair-init g c = record { queue = c.requires.queue; stay = λ n i. i; led = λ e p h i. absurd (none_in i); room = omega arith }

pub put_pair-requires-clause-active : goal.put_pair-requires-clause-active
put_pair-requires-clause-active g c = active_at c.args.set.now.set c.args.pairs.now c.loop-pair.pair-index _ c.loop-pair-test.true c.requires.active

pub loop-pair-preserved : goal.loop-pair-preserved
loop-pair-preserved g c =
    let i = c.loop-pair.invariant in
    let before = i.room in
    let after = c.put_pair.ensures.room in
    record {
      queue = c.put_pair.ensures.queue;
      stay = λ n j. c.put_pair.ensures.stay n (i.stay n j);
      led = λ e p h j. elim (in_taken c.args.pairs.now c.loop-pair.pair-index _ c.loop-pair-test.true j) [ inl k ↦ c.put_pair.ensures.stay e.lead (i.led e p h k) | inr same ↦ c.put_pair.ensures.led e p h same ];
      room = omega arith;
    }

pub returns-clause-led : goal.returns-clause-led
returns-clause-led g c =
    let all = take_all c.loop-pair.pair-index c.args.pairs.now c.loop-pair-test.false in
    rw all at c.loop-pair.invariant.led
