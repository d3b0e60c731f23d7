use Rattle.std.proofs.Common.{◌<◌, length, arith, ◌∙◌}
use Rattle.std.proofs.lemmas.List.{length-map}
use Rattle.ic_path.proofs.Alikes.{alike-length}
use Rattle.ic_names.specs.Queues.{place_of, leads_of}
use Rattle.ic_names.proofs.Heaps.{queued_inside}
use Rattle.ic_names.proofs.Queued.{queue_named}
use Rattle.ic_set.proofs.QueuedLeads.{none_led, others_lead, takes_front}
use Rattle.ic_journal.proofs.Fronts.{front_least}
use Rattle.ic_journal.proofs.standing.queue.drop_stale.Goals as goal

pub led_by_name-requires : goal.led_by_name-requires
led_by_name-requires g c =
    let queue = c.loop-name.invariant.queue in
    queued_inside (queue_named queue) (c.in-Some.ensures.least c.args.set.now.names queue).present

pub loop-name-smaller : goal.loop-name-smaller
loop-name-smaller g c =
    let queue = c.loop-name.invariant.queue in
    let names = c.names.ensures ∙ c.roster.ensures.names in
    let least = rw names at c.take_least.ensures.least in
    let taken = takes_front c.args.set.now.names (leads_of c.loop-name.queue) (leads_of c.take_least.new.self) c.in-Some.name.place c.take_least.result c.lawful.ensures.table (queue_named queue) (c.in-Some.ensures.least c.args.set.now.names queue) least c.take_least.ensures.others c.take_least.ensures.none in
    let fewer = alike-length taken in
    let before = length-map (leads_of c.loop-name.queue) place_of in
    let after = length-map (leads_of c.take_least.new.self) place_of in
    let smaller : length (leads_of c.take_least.new.self) < length (leads_of c.loop-name.queue) = omega arith in
    smaller

pub loop-name-preserved : goal.loop-name-preserved
loop-name-preserved g c =
    let queue = c.loop-name.invariant.queue in
    let names = c.names.ensures ∙ c.roster.ensures.names in
    let least = rw names at c.take_least.ensures.least in
    let taken = takes_front c.args.set.now.names (leads_of c.loop-name.queue) (leads_of c.take_least.new.self) c.in-Some.name.place c.take_least.result c.lawful.ensures.table (queue_named queue) (c.in-Some.ensures.least c.args.set.now.names queue) least c.take_least.ensures.others c.take_least.ensures.none in
    let before = c.loop-name.invariant.room in
    let after = c.take_least.ensures.room in
    record {
      queue = rw names at c.take_least.ensures.queue;
      each = others_lead c.args.set.now (leads_of c.loop-name.queue) (leads_of c.take_least.new.self) c.in-Some.name.place c.loop-name.invariant.each c.in_default-led_by_name.ensures.absent taken;
      room = omega arith;
    }

pub returns-in-Some-led_by_name-clause-front : goal.returns-in-Some-led_by_name-clause-front
returns-in-Some-led_by_name-clause-front g c =
    let least = c.in-Some.ensures.least c.args.set.now.names c.loop-name.invariant.queue in
    let led = c.in-Some-led_by_name.ensures.found in
    (front_least c.args.set.now c.lawful.ensures.set (leads_of c.loop-name.queue) c.in-Some.name.place c.loop-name.invariant.each least led.0 _ led.1 led.2, tt)

pub returns-clause-front : goal.returns-clause-front
returns-clause-front g c = (tt, none_led c.args.set.now c.lawful.ensures.set (leads_of c.loop-name.queue) c.in_default.ensures.none c.loop-name.invariant.each)
