-- Where there is no memory to tell what was done, and nothing was.
use Rattle.std.proofs.Common.{◌≡◌, ◌≤◌, ℕ, List, [], ◌∷◌, ◌++◌, length, Result, Ok, Err, IfOk, OnErr, Vec, Global, refl, sym, ap, subst, append-nil, length-append, arith, ◌∙◌}
use Rattle.std.specs.Prelude.{MatchResult}
use Rattle.std.specs.declared.alloc.AllocError.{AllocError}
use Rattle.ic_name.specs.declared.lines.Line.{Line}
use Rattle.ic_path.proofs.Alikes.{alike_then}
use Rattle.ic_theory.specs.Starts.{Start}
use Rattle.ic_theory.specs.Machine.{State, IsHistory}
use Rattle.ic_journal.specs.Views.{BenchView}
use Rattle.ic_journal.specs.Benches.{IsAt, IsBench}
use Rattle.ic_command.specs.declared.command.Command.{Command}
use Rattle.ic_undo.proofs.SameHistories.{same_history}
use Rattle.ic_answer.specs.declared.answer.Answer.{Answer}
use Rattle.ic_answer.specs.declared.refused.Refused.{Refused}
use Rattle.ic_answer.specs.Longer.{IsLonger}
use Rattle.ic_answer.specs.Texts.{answer_text, refusal_text}
use Rattle.ic_answer.specs.Turns.{Tells, TurnsByCommand}

-- no line was added where the history isn't longer
pub no_more : (old new : BenchView) → IsLonger old new → length new.lines ≤ length old.lines → new.lines ≡ old.lines
no_more old new longer few = longer.lines ∙ ap (λ ls. old.lines ++ ls) (none longer.more (let all = ap length longer.lines ∙ length-append old.lines longer.more in omega (arith, few, all))) ∙ append-nil old.lines
  where
    none : (ls : List Line) → length ls ≤ 0 → ls ≡ []
    none [] f = refl
    none (l ∷ ls) f = absurd (omega (arith, f))

-- then the bench is where it was
pub still_there : (old new : BenchView) → IsBench new → new.start ≡ old.start → IsLonger old new → length new.lines ≤ length old.lines
    → (st : State) → IsAt old st → IsAt new st
still_there old new lawful start longer few st at = record {
  history = history;
  standing = alike_then lawful.running.at.standing (same_history new.start lawful.set.proper refl lawful.running.at.history history);
}
  where
    history : IsHistory new.start new.lines st
    history = subst (λ (s : Start). IsHistory s new.lines st) (sym start) (subst (λ (ls : List Line). IsHistory old.start ls st) (sym (no_more old new longer few)) at.history)

-- and what may be told of a bench that stays is the answer
pub untold : (old new : BenchView) (c : Command) (text : List ℕ) → IsBench new → new.start ≡ old.start → IsLonger old new
    → Tells old c text → length new.lines ≤ length old.lines → TurnsByCommand old c text new
untold old new c text lawful start longer tells few = record {
  start = start;
  replies = λ st at. (st, tells st at, still_there old new lawful start longer few st at);
}

-- the answer is the text that is known, or a refusal where few enough lines are there
pub told_or_refused : (T : List ℕ → Type 0) (S Few : Type 0) (known : List ℕ) (text : Result (Vec ℕ Global) AllocError) (result : Result Answer AllocError) (refused : Refused)
    → T known → (Few → T (refusal_text refused)) → S → IfOk text (λ t. t.items ≡ known)
    → IfOk text (λ t. IfOk result (λ a. answer_text a ≡ t.items)) → OnErr text (IfOk result (λ a. (answer_text a ≡ refusal_text refused) × Few))
    → MatchResult result (λ a. T (answer_text a)) (λ _. S)
told_or_refused T S Few known text (Err e) refused told wants stays same is instead = stays
told_or_refused T S Few known (Ok t) (Ok a) refused told wants stays same is instead = subst T (sym (is ∙ same)) told
told_or_refused T S Few known (Err e) (Ok a) refused told wants stays same is instead = subst T (sym instead.0) (wants instead.1)
