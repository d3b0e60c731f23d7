-- The event is fired and listed, or it isn't.
use Rattle.std.proofs.Common.{◌≡◌, sym, subst, ◌∙◌}
use Rattle.ic_journal.proofs.LeastFired.{least_at}
use Rattle.ic_answer.specs.Stepped.{stepped_head}
use Rattle.ic_answer.specs.Stepping.{HasRefused}
use Rattle.ic_answer.specs.Texts.{event_line}
use Rattle.ic_answer.proofs.SteppedEvents.{fires_one, refuses_one, not_ready}
use Rattle.ic_answer.proofs.StepReplies.{lists_more}
use Rattle.ic_answer.proofs.stepping.fire_listed.Goals as goal

pub ready-requires : goal.ready-requires
ready-requires g c = (c.requires.event, c.requires.pair)

pub returns-in_default : goal.returns-in_default
returns-in_default g c = (not_ready c.args.bench.now c.args.pair c.requires, c.ready.ensures.stays)

pub fire_pair-fired-requires : goal.fire_pair-fired-requires
fire_pair-fired-requires g c = (c.requires.event, c.requires.pair)

pub returns-in-Ok-fired : goal.returns-in-Ok-fired
returns-in-Ok-fired g c =
    let least = c.requires in
    let fires = c.in-Ok-fired.ensures least.event least.pair in
    let one = fires_one c.args.bench.now c.fire_pair-fired.new.self least.event (least_at c.args.bench.now c.args.pair least) c.lawful.ensures fires.0.0 in
    let line : c.deref.result.now ≡ event_line least.event = c.deref.ensures.value ∙ c.in-Ok.ensures.line least.event least.pair in
    let head : c.put.new.self.head.items ≡ stepped_head c.args.count = c.put.ensures.head ∙ c.in-Ok.ensures.head in
    (least.event, one, λ es h many. lists_more c.args.list.now c.ready.new.list c.put.new.self es least.event c.args.count _ h many c.ready.ensures.lines line c.put.ensures.lines head c.put.ensures.room)

pub returns : goal.returns
returns g c =
    let least = c.requires in
    let refuses = c.in-Err.ensures least.event least.pair in
    let told = refuses_one c.args.bench.now c.fire_pair-fired.new.self least.event (least_at c.args.bench.now c.args.pair least) c.lawful.ensures c.in-Err.fault refuses in
    (subst (λ r. HasRefused c.args.bench.now r c.fire_pair-fired.new.self) (sym c.refused_for.ensures) told, c.ready.ensures.stays)
