-- Firings are listed until one is refused, none is left, or they are as many as were asked for.
use Rattle.std.proofs.Common.{[], ◌∷◌, ◌++◌, refl, arith}
use Rattle.std.proofs.lemmas.List.{length-append}
use Rattle.ic_answer.proofs.SteppedEvents.{none_stepped, stepped_more}
use Rattle.ic_answer.proofs.StepReplies.{steps_memory, refused_first, refused_later, idle, as_many}
use Rattle.ic_answer.proofs.stepping.step_often.Goals as goal

pub returns-in_default-clause-turns : goal.returns-in_default-clause-turns
returns-in_default-clause-turns g c = steps_memory c.args.bench.now c.args.most

pub loop-fired-init : goal.loop-fired-init
loop-fired-init g c = record { events = []; lists = c.in-Ok.ensures; many = refl; did = none_stepped c.args.bench.now }

pub returns-in_default-least_active-clause-turns : goal.returns-in_default-least_active-clause-turns
returns-in_default-least_active-clause-turns g c =
    let i = c.loop-fired.invariant in
    let many = i.many in
    let more = c.loop-fired-test.true in
    idle c.args.bench.now c.loop-fired.bench c.args.most i.events i.did c.told.result.items (omega (arith, many, more)) c.in_default-least_active.ensures.absent (c.told.ensures i.events i.lists)

pub returns-in-Err-clause-turns : goal.returns-in-Err-clause-turns
returns-in-Err-clause-turns g c =
    let i = c.loop-fired.invariant in
    let many = i.many in
    let more = c.loop-fired-test.true in
    let first = c.if-fired-eq0.true in
    refused_first c.args.bench.now c.loop-fired.bench c.args.most i.events i.did c.fire_listed.new.bench c.in-Err.refused (omega (arith, many, first)) (omega (arith, more)) c.in-Err.ensures.0

pub returns-in-Err-2-clause-turns : goal.returns-in-Err-2-clause-turns
returns-in-Err-2-clause-turns g c =
    let i = c.loop-fired.invariant in
    let many = i.many in
    let more = c.loop-fired-test.true in
    let later = c.if-fired-eq0.false in
    refused_later c.args.bench.now c.loop-fired.bench c.args.most i.events i.did c.fire_listed.new.bench c.in-Err-2.field-0 c.told-in-Err-2.result.items (omega (arith, many, later)) (omega (arith, many, more)) c.in-Err-2.ensures.0
    (c.told-in-Err-2.ensures i.events (c.in-Err-2.ensures.1 i.events i.lists))

pub loop-fired-preserved : goal.loop-fired-preserved
loop-fired-preserved g c =
    let i = c.loop-fired.invariant in
    let many = i.many in
    let did = c.in-Ok-fire_listed.ensures in
    let long = length-append i.events (did.0 ∷ []) in
    record {
      events = i.events ++ did.0 ∷ [];
      lists = did.2 i.events i.lists (omega (arith, many));
      many = omega (arith, long, many);
      did = stepped_more c.args.bench.now c.loop-fired.bench c.fire_listed.new.bench i.events did.0 i.did did.1;
    }

pub returns-clause-turns : goal.returns-clause-turns
returns-clause-turns g c =
    let i = c.loop-fired.invariant in
    let many = i.many in
    let past = c.loop-fired-test.false in
    let low = c.loop-fired.auto.fired-end in
    as_many c.args.bench.now c.loop-fired.bench c.args.most i.events i.did c.told-2.result.items (omega (arith, many, past, low)) (c.told-2.ensures i.events i.lists)
