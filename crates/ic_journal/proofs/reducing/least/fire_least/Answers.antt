use Rattle.std.proofs.Common.{arith}
use Rattle.ic_journal.proofs.FiredInTurn.{fired_more, reduced_more}
use Rattle.ic_journal.proofs.LeastFired.{none_fired, all_fired, all_fired_normal}
use Rattle.ic_journal.proofs.reducing.least.fire_least.Goals as goal

pub loop-fired-init : goal.loop-fired-init
loop-fired-init g c = none_fired c.args.bench.now

pub returns-in-Some : goal.returns-in-Some
returns-in-Some g c =
    reduced_more c.args.bench.now c.loop-fired.bench c.fire_next.new.bench c.args.most c.loop-fired.fired c.in-Some.end c.loop-fired-test.true c.loop-fired.invariant c.in-Some.ensures

pub loop-fired-preserved : goal.loop-fired-preserved
loop-fired-preserved g c = fired_more c.args.bench.now c.loop-fired.bench c.fire_next.new.bench c.loop-fired.fired c.loop-fired.invariant c.in_default.ensures

pub returns-in-Some-least_active : goal.returns-in-Some-least_active
returns-in-Some-least_active g c =
    let low = c.loop-fired-test.false in
    let high = c.loop-fired.auto.fired-end in
    all_fired c.args.bench.now c.loop-fired.bench c.args.most c.loop-fired.fired _ (omega (arith, low, high)) c.loop-fired.invariant c.in-Some-least_active.ensures.found

pub returns-in-None : goal.returns-in-None
returns-in-None g c =
    let low = c.loop-fired-test.false in
    let high = c.loop-fired.auto.fired-end in
    all_fired_normal c.args.bench.now c.loop-fired.bench c.args.most c.loop-fired.fired (omega (arith, low, high)) c.loop-fired.invariant c.in-None.ensures.absent
