use Rattle.std.proofs.Common.{arith}
use Rattle.ic_set.proofs.LookedUp.{answered_none, answered_more, answered_still, answered_all}
use Rattle.ic_set.proofs.bare.BareSet.active_joins.Goals.{in-Some, in_default}
use Rattle.ic_set.proofs.bare.BareSet.active_joins.Goals as goal

pub loop-place-init : goal.loop-place-init
loop-place-init g c = answered_none c.args.self.now.set c.args.joins.now c.told-joins

pub loop-place-preserved : goal.loop-place-preserved
loop-place-preserved g c =
    let long = c.told-joins in
    let low = c.loop-place-test.true in
    let more = answered_more c.args.self.now.set c.args.joins.now c.loop-place.place c.loop-place.pairs c.loop-place.invariant (omega (arith, long, low)) in
    let still = answered_still c.args.self.now.set c.args.joins.now c.loop-place.place c.loop-place.pairs c.loop-place.invariant (omega (arith, long, low)) in
    elim c.match-joins-place.branch [
      | in-Some w ↦ rw w.pairs-is (more w.in-Some.join _ w.in-Some.is w.active_join.ensures.found w.active_join.ensures.absent)
      | in_default w ↦ rw w.pairs-is (still w.in_default.is)
    ]

pub returns : goal.returns
returns g c =
    let long = c.told-joins in
    let past = c.loop-place-test.false in
    answered_all c.args.self.now.set c.lawful.ensures.set c.args.joins.now c.loop-place.place c.loop-place.pairs c.loop-place.invariant (omega (arith, long, past))
