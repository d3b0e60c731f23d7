use Rattle.std.proofs.Common.{◌≡◌, false, refl}
use Rattle.std.specs.Prelude.{codes}
use Rattle.ic_command.specs.Words.{words}
use Rattle.ic_command.proofs.AskedWords.{asked_absorb, asked_back, asked_bench, asked_mark, asked_no_absorb, asked_no_mark, asked_no_reduce, asked_reduce}
use Rattle.ic_command.proofs.MarksAsked.{is_marking}
use Rattle.ic_command.proofs.WordsAsked.{is_text, no_command, tested}
use Rattle.ic_command.proofs.asked.other_in.Goals as goal

pub returns-in-Some : goal.returns-in-Some
returns-in-Some c =
    let word = is_text c.args.word.now c.as_slice.result.now (codes "reduce") c.eq.result c.eq.ensures c.as_slice.ensures c.if-eq.true in
    asked_reduce c.args.word.now (words c.args.behind.now) c.in-Some.most c.in_ok-most.field-0 word c.in_ok-most.ensures c.in-Some.is

pub returns-in-None : goal.returns-in-None
returns-in-None c =
    let word = is_text c.args.word.now c.as_slice.result.now (codes "reduce") c.eq.result c.eq.ensures c.as_slice.ensures c.if-eq.true in
    asked_no_reduce c.args.word.now (words c.args.behind.now) c.in_ok-most.field-0 word c.in_ok-most.ensures c.in-None.is

pub returns-in-Some-2 : goal.returns-in-Some-2
returns-in-Some-2 c =
    let word = is_text c.args.word.now c.as_slice-2.result.now (codes "absorb") c.eq-2.result c.eq-2.ensures c.as_slice-2.ensures c.if-eq-2.true in
    asked_absorb c.args.word.now (words c.args.behind.now) c.in-Some-2.count c.in_ok-count.field-0 word c.in_ok-count.ensures c.in-Some-2.is

pub returns-in-None-2 : goal.returns-in-None-2
returns-in-None-2 c =
    let word = is_text c.args.word.now c.as_slice-2.result.now (codes "absorb") c.eq-2.result c.eq-2.ensures c.as_slice-2.ensures c.if-eq-2.true in
    asked_no_absorb c.args.word.now (words c.args.behind.now) c.in_ok-count.field-0 word c.in_ok-count.ensures c.in-None-2.is

pub returns-in-Some-3 : goal.returns-in-Some-3
returns-in-Some-3 c =
    let word = is_text c.args.word.now c.as_slice-3.result.now (codes "mark") c.eq-3.result c.eq-3.ensures c.as_slice-3.ensures c.if-eq-3.true in
    asked_mark c.args.word.now (words c.args.behind.now) c.in-Some-3.name c.in_ok-name.field-0 word c.in_ok-name.ensures c.in-Some-3.is

pub returns-in-None-3 : goal.returns-in-None-3
returns-in-None-3 c =
    let word = is_text c.args.word.now c.as_slice-3.result.now (codes "mark") c.eq-3.result c.eq-3.ensures c.as_slice-3.ensures c.if-eq-3.true in
    asked_no_mark c.args.word.now (codes "mark") (words c.args.behind.now) c.in_ok-name.field-0 word refl (no_command (codes "mark") (words c.args.behind.now) _ refl refl refl refl refl) c.in_ok-name.ensures c.in-None-3.is

pub returns-in-Some-4 : goal.returns-in-Some-4
returns-in-Some-4 c =
    let word = is_text c.args.word.now c.as_slice-4.result.now (codes "back") c.eq-4.result c.eq-4.ensures c.as_slice-4.ensures c.if-eq-4.true in
    asked_back c.args.word.now (words c.args.behind.now) c.in-Some-4.name c.in_ok-name-2.field-0 word c.in_ok-name-2.ensures c.in-Some-4.is

pub returns-in-None-4 : goal.returns-in-None-4
returns-in-None-4 c =
    let word = is_text c.args.word.now c.as_slice-4.result.now (codes "back") c.eq-4.result c.eq-4.ensures c.as_slice-4.ensures c.if-eq-4.true in
    asked_no_mark c.args.word.now (codes "back") (words c.args.behind.now) c.in_ok-name-2.field-0 word refl (no_command (codes "back") (words c.args.behind.now) _ refl refl refl refl refl) c.in_ok-name-2.ensures c.in-None-4.is

pub alone_in-requires-clause-counted : goal.alone_in-requires-clause-counted
alone_in-requires-clause-counted c = tested c.args.word.now c.as_slice.result.now (codes "reduce") c.eq.result false c.eq.ensures c.as_slice.ensures c.if-eq.false

pub returns : goal.returns
returns c =
    let not_absorb = tested c.args.word.now c.as_slice-2.result.now (codes "absorb") c.eq-2.result false c.eq-2.ensures c.as_slice-2.ensures c.if-eq-2.false in
    let not_mark = tested c.args.word.now c.as_slice-3.result.now (codes "mark") c.eq-3.result false c.eq-3.ensures c.as_slice-3.ensures c.if-eq-3.false in
    let not_back = tested c.args.word.now c.as_slice-4.result.now (codes "back") c.eq-4.result false c.eq-4.ensures c.as_slice-4.ensures c.if-eq-4.false in
    let not_marking : is_marking c.args.word.now ≡ false = rw (not_mark, not_back) refl in
    asked_bench c.args.word.now (words c.args.behind.now) c.alone_in.result not_absorb not_marking c.alone_in.ensures
