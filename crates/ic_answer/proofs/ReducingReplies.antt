-- What is told of a reduction is the answer.
use Rattle.std.proofs.Common.{◌≡◌, ℕ, List, ◌++◌, codes, Result, Ok, Err, IfOk, refl, sym, subst, append_assoc, arith}
use Rattle.std.specs.Prelude.{MatchResult}
use Rattle.std.specs.Fmt.{decimal}
use Rattle.std.specs.declared.alloc.AllocError.{AllocError}
use Rattle.std.proofs.lemmas.Fmt.{decimal_digit}
use Rattle.ic_theory.specs.Starts.{Start}
use Rattle.ic_theory.specs.Machine.{State}
use Rattle.ic_journal.specs.Views.{BenchView}
use Rattle.ic_command.specs.declared.command.Command.TheVariants.{Reduce}
use Rattle.ic_journal.specs.declared.reducing.end.End.{End}
use Rattle.ic_journal.specs.declared.reducing.end.End.TheVariants.{Normal, Budget, Limit, Memory}
use Rattle.ic_journal.specs.Reduced.{IsReduced, Reduces}
use Rattle.ic_journal.specs.Reducing.{AreFiredInTurn}
use Rattle.ic_answer.specs.declared.answer.Answer.{Answer}
use Rattle.ic_answer.specs.declared.refused.Refused.TheVariants.{MemoryBeforeReduce}
use Rattle.ic_answer.specs.Ends.{end_text}
use Rattle.ic_answer.specs.CommandReplies.{RepliesToCommand, reduced_normal, reduced_budget, reduced_limit, reduced_memory, reduce_memory}
use Rattle.ic_answer.specs.Texts.{answer_text, reduced_text, refusal_text, unfired_text, wanting_after}
use Rattle.ic_answer.specs.Turns.{Tells, TurnsByCommand}

-- the parts of the text in another grouping
pub reduced_parts : (n : ℕ) (end : List ℕ)
    → codes "reduced " ++ (decimal n ++ (codes " " ++ (end ++ codes "\n"))) ≡ reduced_text n end
reduced_parts n end = simp append_assoc

-- what is told of it
told_reduced : (s : Start) (st next : State) (most n : ℕ) (end : End) → IsReduced s st most n end next
    → RepliesToCommand s st (Reduce most) (end_text n end) next
told_reduced s st next most n Normal h = reduced_normal h.0 h.1 h.2
told_reduced s st next most n Budget h = rw h.1 (reduced_budget (subst (λ m. AreFiredInTurn s m st next) h.1 h.0) h.2.1)
told_reduced s st next most n Limit h = reduced_limit h.1 h.2 h.3
told_reduced s st next most n Memory h = reduced_memory h.0 h.1

pub reduces : (old new : BenchView) (most n : ℕ) (end : End) (text : List ℕ) → text ≡ end_text n end
    → Reduces old most n end new → TurnsByCommand old (Reduce most) text new
reduces old new most n end text is h = record {
  start = h.start;
  replies = λ st at. (
      let r = h.reduced st at in
      (r.0, subst (λ t. RepliesToCommand old.start st (Reduce most) t r.0) (sym is) (told_reduced old.start st r.0 most n end r.1), r.2)
      );
}

-- memory may be wanting before anything is fired
pub reduce_wants : (v : BenchView) (most : ℕ) → Tells v (Reduce most) (refusal_text MemoryBeforeReduce)
reduce_wants v most = λ st at. subst (λ t. RepliesToCommand v.start st (Reduce most) t st) before_firing reduce_memory
  where
    before_firing : wanting_after 0 ≡ refusal_text MemoryBeforeReduce
    before_firing = rw (decimal_digit 0 (omega arith)) refl

-- what is told where nothing was fired
pub unfired_is : (end : End) → unfired_text end ≡ end_text 0 end
unfired_is Normal = rw (decimal_digit 0 (omega arith)) refl
unfired_is Budget = rw (decimal_digit 0 (omega arith)) refl
unfired_is Limit = rw (decimal_digit 0 (omega arith)) refl
unfired_is Memory = rw (decimal_digit 0 (omega arith)) refl

-- the answer tells of the reduction, or the start stays
pub reduction_told : (old new : BenchView) (most n : ℕ) (end : End) (result : Result Answer AllocError) → Reduces old most n end new
    → IfOk result (λ a. answer_text a ≡ end_text n end)
    → MatchResult result (λ a. TurnsByCommand old (Reduce most) (answer_text a) new) (λ _. new.start ≡ old.start)
reduction_told old new most n end (Ok a) h is = reduces old new most n end (answer_text a) is h
reduction_told old new most n end (Err e) h is = h.start
