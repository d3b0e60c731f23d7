use Rattle.std.proofs.Common.{arith, sym, [], length, ◌≤◌, ◌<◌}
use Rattle.ic_theory.specs.Listed.{shown}
use Rattle.ic_theory.specs.Nets.{net_of}
use Rattle.ic_net.proofs.Replayed.{one_more, all_replayed}
use Rattle.ic_net.proofs.replays.replay.Goals as goal

pub loop-place-preserved : goal.loop-place-preserved
loop-place-preserved c =
    let within : c.loop-place.place < length c.args.events.now = (let t = c.loop-place-test.true in omega arith) in
    one_more (net_of c.args.start.now []) (shown c.loop-place.net) (shown c.step.new.self) c.args.events.now c.loop-place.place c.index-events-place.result within
    c.loop-place.invariant (sym c.index-events-place.is) c.in-Ok-step.ensures.defined.0 c.in-Ok-step.ensures.stepped

pub returns-clause-sound : goal.returns-clause-sound
returns-clause-sound c =
    let all : length c.args.events.now ≤ c.loop-place.place = (let t = c.loop-place-test.false in omega arith) in
    (all_replayed c.args.start.now c.lawful.ensures.proper c.args.events.now c.loop-place.place (shown c.loop-place.net) all c.loop-place.invariant).sound

pub returns-clause-causal : goal.returns-clause-causal
returns-clause-causal c =
    let all : length c.args.events.now ≤ c.loop-place.place = (let t = c.loop-place-test.false in omega arith) in
    (all_replayed c.args.start.now c.lawful.ensures.proper c.args.events.now c.loop-place.place (shown c.loop-place.net) all c.loop-place.invariant).causal

pub returns-clause-left : goal.returns-clause-left
returns-clause-left c =
    let all : length c.args.events.now ≤ c.loop-place.place = (let t = c.loop-place-test.false in omega arith) in
    (all_replayed c.args.start.now c.lawful.ensures.proper c.args.events.now c.loop-place.place (shown c.loop-place.net) all c.loop-place.invariant).left
