use Rattle.std.specs.Prelude.{codes}
use Rattle.ic_command.specs.Words.{words}
use Rattle.ic_command.proofs.WordsAsked.{is_text}
use Rattle.ic_command.proofs.WordsQuestioned.{asks_dependents, asks_no_dependents, asks_steps, asks_unstep, asks_wire, asks_no_wire}
use Rattle.ic_command.proofs.question.question_in.Goals as goal

pub returns-in-Some-2 : goal.returns-in-Some-2
returns-in-Some-2 c =
    let word = is_text c.in-Some.word.now c.as_slice.result.now (codes "dependents") c.eq.result c.eq.ensures c.as_slice.ensures c.if-eq.true in
    asks_dependents c.in-Some.word.now (words c.in-Some.behind.now) (words c.args.body.now) c.in_ok-event.field-0 c.in-Some-2.event c.in-Some.ensures word c.in_ok-event.ensures c.in-Some-2.is

pub returns-in-None : goal.returns-in-None
returns-in-None c =
    let word = is_text c.in-Some.word.now c.as_slice.result.now (codes "dependents") c.eq.result c.eq.ensures c.as_slice.ensures c.if-eq.true in
    asks_no_dependents c.in-Some.word.now (words c.in-Some.behind.now) (words c.args.body.now) c.in_ok-event.field-0 c.in-Some.ensures word c.in_ok-event.ensures c.in-None.is

pub returns-in-Some-3 : goal.returns-in-Some-3
returns-in-Some-3 c =
    let word = is_text c.in-Some.word.now c.as_slice-2.result.now (codes "wire") c.eq-2.result c.eq-2.ensures c.as_slice-2.ensures c.if-eq-2.true in
    asks_wire c.in-Some.word.now (words c.in-Some.behind.now) (words c.args.body.now) c.in_ok-place.field-0 c.in-Some-3.place c.in-Some.ensures word c.in_ok-place.ensures c.in-Some-3.is

pub returns-in-None-2 : goal.returns-in-None-2
returns-in-None-2 c =
    let word = is_text c.in-Some.word.now c.as_slice-2.result.now (codes "wire") c.eq-2.result c.eq-2.ensures c.as_slice-2.ensures c.if-eq-2.true in
    asks_no_wire c.in-Some.word.now (words c.in-Some.behind.now) (words c.args.body.now) c.in_ok-place.field-0 c.in-Some.ensures word c.in_ok-place.ensures c.in-None-2.is

pub returns-in-Some-4 : goal.returns-in-Some-4
returns-in-Some-4 c =
    let word = is_text c.in-Some.word.now c.as_slice-3.result.now (codes "step") c.eq-3.result c.eq-3.ensures c.as_slice-3.ensures c.if-eq-3.true in
    asks_steps c.in-Some.word.now (words c.in-Some.behind.now) (words c.args.body.now) c.in_ok-most.field-0 c.in-Some-4.most c.in-Some.ensures word c.in_ok-most.ensures c.in-Some-4.is

pub returns-in-Some-5 : goal.returns-in-Some-5
returns-in-Some-5 c =
    let word = is_text c.in-Some.word.now c.as_slice-4.result.now (codes "unstep") c.eq-4.result c.eq-4.ensures c.as_slice-4.ensures c.if-eq-4.true in
    asks_unstep c.in-Some.word.now (words c.in-Some.behind.now) (words c.args.body.now) c.in_ok-most-2.field-0 c.in-Some-5.most c.in-Some.ensures word c.in_ok-most-2.ensures c.in-Some-5.is
