use Rattle.std.proofs.Common.{◌≢◌, ◌∙◌, sym, ap, [], length, drop, take}
use Rattle.std.proofs.lemmas.Bool.{eqb-true, eqb-false}
use Rattle.ic_command.proofs.Taken.{no_bytes}
use Rattle.ic_command.proofs.WordFacts.{cut_word, cut_none}
use Rattle.ic_command.proofs.words.next_word.Goals as goal

pub returns-then-is_empty : goal.returns-then-is_empty
returns-then-is_empty c =
    let rest = c.split_at.ensures.back ∙ ap (λ k. drop k c.args.line.now) c.blanks.ensures.value in
    let word = c.split_at-2.ensures.front ∙ ap (λ k. take k c.split_at.result.1.now) c.solids.ensures.value in
    cut_none c.args.line.now c.split_at-2.result.0.now c.split_at.result.1.now rest word (no_bytes _ (eqb-true _ 0 (sym c.is_empty.ensures ∙ c.if-is_empty.true)))

pub returns-else-is_empty : goal.returns-else-is_empty
returns-else-is_empty c =
    let rest = c.split_at.ensures.back ∙ ap (λ k. drop k c.args.line.now) c.blanks.ensures.value in
    let word = c.split_at-2.ensures.front ∙ ap (λ k. take k c.split_at.result.1.now) c.solids.ensures.value in
    let behind = c.split_at-2.ensures.back ∙ ap (λ k. drop k c.split_at.result.1.now) c.solids.ensures.value in
    let some : c.split_at-2.result.0.now ≢ [] = λ e. eqb-false _ 0 (sym c.is_empty.ensures ∙ c.if-is_empty.false) (ap length e) in
    cut_word c.args.line.now c.split_at-2.result.0.now c.split_at-2.result.1.now c.split_at.result.1.now rest word behind some
