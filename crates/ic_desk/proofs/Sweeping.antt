-- What is told of a desk whose reductions are sweeps.
use Rattle.std.proofs.Common.{◌≡◌, ℕ, ◌<◌, List, sym, subst}
use Rattle.ic_journal.specs.Views.{BenchView}
use Rattle.ic_journal.specs.declared.reducing.end.End.{End}
use Rattle.ic_work.specs.Sweeps.{Sweeps}
use Rattle.ic_command.specs.declared.command.Command.TheVariants.{Reduce}
use Rattle.ic_command.specs.declared.request.Request.{Request}
use Rattle.ic_command.specs.declared.request.Request.TheVariants.{Bench}
use Rattle.ic_answer.specs.declared.answer.Answer.{Answer}
use Rattle.ic_answer.specs.declared.refused.Refused.TheVariants.{MemoryBeforeReduce}
use Rattle.ic_answer.specs.Ends.{end_text}
use Rattle.ic_answer.specs.Texts.{answer_text, refusal_text}
use Rattle.ic_answer.proofs.ReducingReplies.{reduce_wants}
use Rattle.ic_answer.proofs.TurnSteps.{told_same}
use Rattle.ic_desk.specs.ManyWorkers.{TurnsWith, as_one, swept}
use Rattle.ic_desk.specs.Views.{NamedView, DeskView, TurnsByRequest}
use Rattle.ic_desk.proofs.DeskTurns.{desk_of, bench_turns}

-- what one worker answers, any number of workers may
pub as_with_one : (workers : ℕ) (old new : DeskView) (r : Request) (text : List ℕ) → TurnsByRequest old r text new → TurnsWith workers old r text new
as_with_one workers old new r text t = record {
  start = t.start;
  replies = λ st at. (let a = t.replies st at in (a.0, as_one a.1, a.2));
}

-- a sweep is told of
sweep_turns : (workers : ℕ) (old new : BenchView) (marks : List NamedView) (most n : ℕ) (end : End) → 1 < workers → Sweeps old most n end new
    → TurnsWith workers (desk_of old marks) (Bench (Reduce most)) (end_text n end) (desk_of new marks)
sweep_turns workers old new marks most n end many sweeps = record {
  start = sweeps.start;
  replies = λ st at. (
      let a = sweeps.swept st.bench at.bench in
      (record st { bench = a.0 }, swept many a.1, record { bench = a.2; marks = at.marks })
      );
}

-- by the answer
pub sweep_told : (workers : ℕ) (old new : BenchView) (marks : List NamedView) (most n : ℕ) (end : End) (answer : Answer)
    → 1 < workers → Sweeps old most n end new → answer_text answer ≡ end_text n end
    → TurnsWith workers (desk_of old marks) (Bench (Reduce most)) (answer_text answer) (desk_of new marks)
sweep_told workers old new marks most n end answer many sweeps told =
    subst (λ t. TurnsWith workers (desk_of old marks) (Bench (Reduce most)) t (desk_of new marks)) (sym told) (sweep_turns workers old new marks most n end many sweeps)

-- or there is no memory for one
pub wanting_turns : (workers : ℕ) (old new : BenchView) (marks : List NamedView) (most : ℕ) → new ≡ old
    → TurnsWith workers (desk_of old marks) (Bench (Reduce most)) (refusal_text MemoryBeforeReduce) (desk_of new marks)
wanting_turns workers old new marks most same =
    as_with_one workers (desk_of old marks) (desk_of new marks) (Bench (Reduce most)) (refusal_text MemoryBeforeReduce)
    (bench_turns old new marks (Reduce most) (refusal_text MemoryBeforeReduce) (told_same old new (Reduce most) (refusal_text MemoryBeforeReduce) same (reduce_wants old most)))
