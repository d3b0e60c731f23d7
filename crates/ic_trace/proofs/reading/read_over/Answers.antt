use Rattle.std.proofs.Common.{◌≤◌, Option, length, refl, arith, subst}
use Rattle.std.proofs.lemmas.List.{length-take-le, take_all}
use Rattle.ic_name.specs.declared.limits.TheConstants.{MAX_LINES}
use Rattle.ic_trace.specs.declared.reading.Step.{Step}
use Rattle.ic_trace.specs.Readings.{ReadsAs}
use Rattle.ic_trace.proofs.ReadLists.{followed_none, read_none, read_more, few_stand, few_known, refused_first, read_all}
use Rattle.ic_trace.proofs.reading.read_over.Goals as goal
use Rattle.ic_path.proofs.ListPlaces.{seen_more}

pub loop-number-init : goal.loop-number-init
loop-number-init c =
    let p = c.args.past.now in
    let t = c.new-table.result in
    rw c.new-steps.ensures.items
    (read_none p.start p t refl (followed_none p t c.lawful.ensures.proper c.requires.nothing c.new-table.ensures.none c.new-table.ensures.numbered) c.requires.nothing c.new-table.ensures.none)

pub read_letter-requires-clause-few : goal.read_letter-requires-clause-few
read_letter-requires-clause-few c =
    let i = c.loop-number.number in
    let xs = c.args.letters.now in
    let inside = c.loop-number-test.true in
    let few : length xs ≤ MAX_LINES = c.requires.few in
    let long = length-take-le i xs (omega (arith, inside)) in
    few_stand c.args.past.now.start c.loop-number.invariant (omega (arith, inside, few, long))

pub read_letter-requires-clause-noted : goal.read_letter-requires-clause-noted
read_letter-requires-clause-noted c =
    let i = c.loop-number.number in
    let xs = c.args.letters.now in
    let inside = c.loop-number-test.true in
    let few : length xs ≤ MAX_LINES = c.requires.few in
    let long = length-take-le i xs (omega (arith, inside)) in
    few_known c.args.past.now.start c.loop-number.invariant (omega (arith, inside, few, long))

pub returns-in-None : goal.returns-in-None
returns-in-None c =
    let i = c.loop-number.number in
    let xs = c.args.letters.now in
    let y = c.index-letters-number.result in
    let refused = subst (λ (o : Option Step). ReadsAs c.loop-number.past c.loop-number.table.known.items y o c.read_letter.new.past c.read_letter.new.table) c.in-None.is c.in_ok-step.ensures in
    refused_first c.args.past.now.start c.lawful.ensures.proper xs i y c.loop-number-test.true (seen_more xs i y _ c.loop-number-test.true c.index-letters-number.is) c.loop-number.invariant refused

pub loop-number-preserved : goal.loop-number-preserved
loop-number-preserved c =
    let i = c.loop-number.number in
    let xs = c.args.letters.now in
    let y = c.index-letters-number.result in
    let accepted = subst (λ (o : Option Step). ReadsAs c.loop-number.past c.loop-number.table.known.items y o c.read_letter.new.past c.read_letter.new.table) c.in-Some.is c.in_ok-step.ensures in
    rw (c.in_ok-push-in-Some.ensures.items, seen_more xs i y _ c.loop-number-test.true c.index-letters-number.is)
    (read_more c.args.past.now.start c.loop-number.invariant accepted)

pub returns : goal.returns
returns c =
    let whole = take_all c.loop-number.number c.args.letters.now c.loop-number-test.false in
    read_all c.args.past.now.start c.args.letters.now (record { known = c.loop-number.table.known; steps = c.loop-number.steps }) (rw whole at c.loop-number.invariant) refl refl
