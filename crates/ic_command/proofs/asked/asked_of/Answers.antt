use Rattle.std.proofs.Common.{◌≡◌, ◌<◌, ◌≤◌, IfOk, true, arith, length, refl, sym, subst, ap, ◌∙◌}
use Rattle.std.proofs.lemmas.Result.{IfOk-weaker}
use Rattle.std.specs.List.{list_all}
use Rattle.ic_command.specs.Asked.{AreAskedWords, to_request}
use Rattle.ic_command.specs.Commands.{are_plain_words, is_plain}
use Rattle.ic_command.specs.declared.asked.Asked.TheVariants.{Alone}
use Rattle.ic_command.specs.declared.command.Command.TheVariants.{Nothing}
use Rattle.ic_command.specs.declared.command.TheConstants.{MAX_COMMAND}
use Rattle.ic_command.specs.declared.request.Request.TheVariants.{Bench}
use Rattle.ic_command.proofs.AskedLines.{deed_asked, formed_body, long_asked, odd_asked}
use Rattle.ic_command.proofs.AskedWords.{words_asked}
use Rattle.ic_command.proofs.PlainWords.{plain_line}
use Rattle.ic_command.proofs.RequestWords.{no_words_request}
use Rattle.ic_command.proofs.WordsAbsorbing.{absorbs_nothing}
use Rattle.ic_command.proofs.asked.asked_of.Goals as goal

pub returns-then-body-gt-MAX_COMMAND : goal.returns-then-body-gt-MAX_COMMAND
returns-then-body-gt-MAX_COMMAND c =
    let long : MAX_COMMAND < length c.without_return-body.result.now = search arith in
    long_asked c.args.line.now c.without_return-body.result.now c.without_return-body.ensures long

pub returns-in_default : goal.returns-in_default
returns-in_default c =
    let body = c.without_return-body.ensures in
    let short : length c.without_return-body.result.now ≤ MAX_COMMAND = search arith in
    let plain = plain_line c.without_return-body.result.now (ap are_plain_words c.in_default.ensures) in
    let formed = formed_body c.args.line.now c.without_return-body.result.now body short plain in
    words_asked c.args.line.now c.without_return-body.result.now body formed (Alone (Bench Nothing)) (to_request (absorbs_nothing _ c.in_default.ensures) (no_words_request _ c.in_default.ensures))

pub returns-in-Some-of : goal.returns-in-Some-of
returns-in-Some-of c =
    let short : length c.without_return-body.result.now ≤ MAX_COMMAND = search arith in
    deed_asked c.args.line.now c.without_return-body.result.now c.in-Some.word.now c.in-Some-of.deed _ c.deed_in.result
    c.without_return-body.ensures short c.in-Some.ensures c.in-Some-of.ensures c.deed_in.ensures.asked c.deed_in.ensures.plain

pub returns-then-not-are_plain : goal.returns-then-not-are_plain
returns-then-not-are_plain c = odd_asked c.args.line.now c.without_return-body.result.now c.without_return-body.ensures (sym c.are_plain.ensures ∙ c.if-not-are_plain.true)

pub returns : goal.returns
returns c =
    let body = c.without_return-body.ensures in
    let short : length c.without_return-body.result.now ≤ MAX_COMMAND = search arith in
    let plain : list_all is_plain c.without_return-body.result.now ≡ true = sym c.are_plain.ensures ∙ c.if-not-are_plain.false in
    let formed = formed_body c.args.line.now c.without_return-body.result.now body short plain in
    let asked = subst (λ ws. IfOk c.other_in.result (AreAskedWords ws)) (sym c.in-Some.ensures) c.other_in.ensures in
    IfOk-weaker c.other_in.result _ _ (words_asked c.args.line.now c.without_return-body.result.now body formed) asked
