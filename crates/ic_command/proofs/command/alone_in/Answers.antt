use Rattle.std.proofs.Common.{◌≡◌, ◌≢◌, true, false, [], refl, sym, ◌∙◌, rules}
use Rattle.std.specs.Prelude.{codes}
use Rattle.ic_command.specs.Commands.{is_comment, asked, comment, net, active, journal, undo_all}
use Rattle.ic_command.specs.Words.{words}
use Rattle.ic_command.specs.declared.command.Command.TheVariants.{Net, Active, Journal, UndoAll}
use Rattle.ic_command.proofs.WordsAsked.{asks_alone, is_text, no_command, tested, too_many}
use Rattle.ic_command.proofs.command.alone_in.Goals as goal

pub returns-then-is_comment : goal.returns-then-is_comment
returns-then-is_comment c =
    let word : is_comment c.args.word.now ≡ true = sym c.is_comment.ensures ∙ c.if-is_comment.true in
    asked (comment word)

pub returns-then-is_some : goal.returns-then-is_some
returns-then-is_some c =
    let plain : is_comment c.args.word.now ≡ false = sym c.is_comment.ensures ∙ c.if-is_comment.false in
    let more : words c.args.behind.now ≢ [] = λ none. search rules in
    too_many c.args.word.now (words c.args.behind.now) _ refl plain c.requires.paired c.requires.counted more

pub returns-then-eq : goal.returns-then-eq
returns-then-eq c =
    let word = is_text c.args.word.now c.as_slice.result.now (codes "net") c.eq.result c.eq.ensures c.as_slice.ensures c.if-eq.true in
    let none : words c.args.behind.now ≡ [] = search rules in
    asks_alone c.args.word.now (codes "net") (words c.args.behind.now) Net word none net

pub returns-then-eq-2 : goal.returns-then-eq-2
returns-then-eq-2 c =
    let word = is_text c.args.word.now c.as_slice-else-eq.result.now (codes "active") c.eq-else-eq.result c.eq-else-eq.ensures c.as_slice-else-eq.ensures c.if-eq-2.true in
    let none : words c.args.behind.now ≡ [] = search rules in
    asks_alone c.args.word.now (codes "active") (words c.args.behind.now) Active word none active

pub returns-then-eq-3 : goal.returns-then-eq-3
returns-then-eq-3 c =
    let word = is_text c.args.word.now c.as_slice-else-eq-2.result.now (codes "journal") c.eq-else-eq-2.result c.eq-else-eq-2.ensures c.as_slice-else-eq-2.ensures c.if-eq-3.true in
    let none : words c.args.behind.now ≡ [] = search rules in
    asks_alone c.args.word.now (codes "journal") (words c.args.behind.now) Journal word none journal

pub returns-then-eq-4 : goal.returns-then-eq-4
returns-then-eq-4 c =
    let word = is_text c.args.word.now c.as_slice-else-eq-3.result.now (codes "undo-all") c.eq-else-eq-3.result c.eq-else-eq-3.ensures c.as_slice-else-eq-3.ensures c.if-eq-4.true in
    let none : words c.args.behind.now ≡ [] = search rules in
    asks_alone c.args.word.now (codes "undo-all") (words c.args.behind.now) UndoAll word none undo_all

pub returns-else-eq-4 : goal.returns-else-eq-4
returns-else-eq-4 c =
    let plain : is_comment c.args.word.now ≡ false = sym c.is_comment.ensures ∙ c.if-is_comment.false in
    let not_net = tested c.args.word.now c.as_slice.result.now (codes "net") c.eq.result false c.eq.ensures c.as_slice.ensures c.if-eq.false in
    let not_active = tested c.args.word.now c.as_slice-else-eq.result.now (codes "active") c.eq-else-eq.result false c.eq-else-eq.ensures c.as_slice-else-eq.ensures c.if-eq-2.false in
    let not_journal = tested c.args.word.now c.as_slice-else-eq-2.result.now (codes "journal") c.eq-else-eq-2.result false c.eq-else-eq-2.ensures c.as_slice-else-eq-2.ensures c.if-eq-3.false in
    let not_undo_all = tested c.args.word.now c.as_slice-else-eq-3.result.now (codes "undo-all") c.eq-else-eq-3.result false c.eq-else-eq-3.ensures c.as_slice-else-eq-3.ensures c.if-eq-4.false in
    no_command c.args.word.now (words c.args.behind.now) _ refl plain (rw (not_net, not_active, not_journal, not_undo_all) refl) c.requires.paired c.requires.counted
