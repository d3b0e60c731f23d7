use Rattle.std.proofs.Common.{[], ◌∷◌, sym, subst}
use Rattle.std.specs.Prelude.{codes}
use Rattle.ic_command.specs.Questions.{AsksQuestion, agents, causes, history, marks, rules, help, step, unstep}
use Rattle.ic_command.specs.declared.question.Question.TheVariants.{Agents, Causes, History, Marks, Rules, Help, Step, Unstep}
use Rattle.ic_command.proofs.WordsAsked.{is_text}
use Rattle.ic_command.proofs.question.plain_question.Goals as goal

pub returns-then-eq : goal.returns-then-eq
returns-then-eq c =
    let word = is_text c.args.word.now c.as_slice.result.now (codes "agents") c.eq.result c.eq.ensures c.as_slice.ensures c.if-eq.true in
    subst (λ w. AsksQuestion (w ∷ []) Agents) (sym word) agents

pub returns-then-eq-2 : goal.returns-then-eq-2
returns-then-eq-2 c =
    let word = is_text c.args.word.now c.as_slice-else-eq.result.now (codes "history") c.eq-else-eq.result c.eq-else-eq.ensures c.as_slice-else-eq.ensures c.if-eq-2.true in
    subst (λ w. AsksQuestion (w ∷ []) History) (sym word) history

pub returns-then-eq-3 : goal.returns-then-eq-3
returns-then-eq-3 c =
    let word = is_text c.args.word.now c.as_slice-else-eq-2.result.now (codes "marks") c.eq-else-eq-2.result c.eq-else-eq-2.ensures c.as_slice-else-eq-2.ensures c.if-eq-3.true in
    subst (λ w. AsksQuestion (w ∷ []) Marks) (sym word) marks

pub returns-then-eq-4 : goal.returns-then-eq-4
returns-then-eq-4 c =
    let word = is_text c.args.word.now c.as_slice-else-eq-3.result.now (codes "rules") c.eq-else-eq-3.result c.eq-else-eq-3.ensures c.as_slice-else-eq-3.ensures c.if-eq-4.true in
    subst (λ w. AsksQuestion (w ∷ []) Rules) (sym word) rules

pub returns-then-eq-5 : goal.returns-then-eq-5
returns-then-eq-5 c =
    let word = is_text c.args.word.now c.as_slice-else-eq-4.result.now (codes "help") c.eq-else-eq-4.result c.eq-else-eq-4.ensures c.as_slice-else-eq-4.ensures c.if-eq-5.true in
    subst (λ w. AsksQuestion (w ∷ []) Help) (sym word) help

pub returns-then-eq-6 : goal.returns-then-eq-6
returns-then-eq-6 c =
    let word = is_text c.args.word.now c.as_slice-else-eq-5.result.now (codes "step") c.eq-else-eq-5.result c.eq-else-eq-5.ensures c.as_slice-else-eq-5.ensures c.if-eq-6.true in
    subst (λ w. AsksQuestion (w ∷ []) Step) (sym word) step

pub returns-then-eq-7 : goal.returns-then-eq-7
returns-then-eq-7 c =
    let word = is_text c.args.word.now c.as_slice-else-eq-6.result.now (codes "causes") c.eq-else-eq-6.result c.eq-else-eq-6.ensures c.as_slice-else-eq-6.ensures c.if-eq-7.true in
    subst (λ w. AsksQuestion (w ∷ []) Causes) (sym word) causes

pub returns-then-eq-8 : goal.returns-then-eq-8
returns-then-eq-8 c =
    let word = is_text c.args.word.now c.as_slice-else-eq-7.result.now (codes "unstep") c.eq-else-eq-7.result c.eq-else-eq-7.ensures c.as_slice-else-eq-7.ensures c.if-eq-8.true in
    subst (λ w. AsksQuestion (w ∷ []) (Unstep 1)) (sym word) unstep
