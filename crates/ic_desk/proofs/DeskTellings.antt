-- What a desk tells, put together.
use Rattle.std.proofs.Common.{◌≡◌, ℕ, List, map, Result, Ok, Err, IfOk, OnErr, Vec, Global, refl, sym, ap, subst, ◌∙◌}
use Rattle.std.proofs.lemmas.Result.{IfOk-weaker}
use Rattle.std.specs.declared.alloc.AllocError.{AllocError}
use Rattle.ic_name.specs.Events.{Event, Pair, pair}
use Rattle.ic_theory.specs.Active.{IsActive}
use Rattle.ic_theory.specs.Machine.{State, events}
use Rattle.ic_set.specs.Views.{standing}
use Rattle.ic_journal.specs.Views.{BenchView, set_of}
use Rattle.ic_journal.specs.Benches.{IsAt}
use Rattle.ic_journal.specs.Reducing.{IsLeastActive}
use Rattle.ic_journal.proofs.LeastFired.{normal_at}
use Rattle.ic_command.specs.declared.command.Command.TheVariants.{Fire}
use Rattle.ic_command.specs.declared.help.TheConstants.{HELP}
use Rattle.ic_command.specs.declared.question.Question.{Question}
use Rattle.ic_command.specs.declared.question.Question.TheVariants.{Marks, Rules, Help, Step, Steps, Unstep}
use Rattle.ic_command.specs.declared.request.Request.TheVariants.{Bench}
use Rattle.ic_answer.specs.BenchQuestions.{InformsOf, rules}
use Rattle.ic_answer.specs.LastFired.{UnstepsBench}
use Rattle.ic_answer.specs.Stepping.{StepsBench}
use Rattle.ic_answer.specs.Texts.{answer_text, refusal_text}
use Rattle.ic_answer.specs.declared.answer.Answer.{Answer}
use Rattle.ic_answer.specs.declared.refused.Refused.TheVariants.{NotActive, Memory}
use Rattle.ic_answer.specs.declared.rules.TheConstants.{RULES}
use Rattle.ic_desk.specs.Questions.{Told, marks_text, of_bench, marks, help, stepped, nothing_active, stepped_often, unstepped, memory}
use Rattle.ic_desk.specs.Replies.{RepliesToRequest}
use Rattle.ic_desk.specs.Views.{DeskView, NamedView, TurnsByRequest, note_of}

-- memory is wanting
pub memory_told : (d : DeskView) (q : Question) → Told d q (refusal_text Memory) d
memory_told d q = record { start = refl; tells = λ st at. (st, memory, at) }

-- what the bench tells
bench_told : (d : DeskView) (v : BenchView) (q : Question) (text : List ℕ) → v ≡ d.bench → InformsOf v q text → Told d q text d
bench_told d v q text same h = record { start = refl; tells = λ st at. (st, of_bench (subst (λ (w : BenchView). InformsOf w q text) same h st.bench at.bench), at) }

-- a text that is told, or that memory is wanting
text_told : (d : DeskView) (q known : Question) (text : List ℕ) (result : Result (Vec ℕ Global) AllocError) → q ≡ known → IfOk result (λ t. Told d known t.items d)
    → IfOk result (λ t. text ≡ t.items) → OnErr result (text ≡ refusal_text Memory) → Told d q text d
text_told d q known text (Ok t) same told is wanting = subst (λ k. Told d k text d) (sym same) (subst (λ bytes. Told d known bytes d) (sym is) told)
text_told d q known text (Err e) same told is wanting = subst (λ k. Told d k text d) (sym same) (subst (λ bytes. Told d known bytes d) (sym wanting) (memory_told d known))

-- one that the bench tells
pub bench_text : (d : DeskView) (v : BenchView) (q known : Question) (text : List ℕ) (result : Result (Vec ℕ Global) AllocError) → v ≡ d.bench → q ≡ known → IfOk result (λ t. InformsOf v known t.items)
    → IfOk result (λ t. text ≡ t.items) → OnErr result (text ≡ refusal_text Memory) → Told d q text d
bench_text d v q known text result same is_known informs is wanting =
    text_told d q known text result is_known (IfOk-weaker result _ _ (λ t h. bench_told d v known t.items same h) informs) is wanting

-- an answer that the bench tells, or that memory is wanting
pub bench_answer : (d : DeskView) (v : BenchView) (q known : Question) (text : List ℕ) (result : Result Answer AllocError) → v ≡ d.bench → q ≡ known → IfOk result (λ a. InformsOf v known (answer_text a))
    → IfOk result (λ a. text ≡ answer_text a) → OnErr result (text ≡ refusal_text Memory) → Told d q text d
bench_answer d v q known text (Ok a) same is_known informs is wanting =
    subst (λ k. Told d k text d) (sym is_known) (subst (λ bytes. Told d known bytes d) (sym is) (bench_told d v known (answer_text a) same informs))
bench_answer d v q known text (Err e) same is_known informs is wanting =
    subst (λ k. Told d k text d) (sym is_known) (subst (λ bytes. Told d known bytes d) (sym wanting) (memory_told d known))

-- the marks
pub marks_told : (d : DeskView) (ms : List NamedView) (q : Question) (text : List ℕ) (result : Result (Vec ℕ Global) AllocError) → ms ≡ d.marks → q ≡ Marks
    → IfOk result (λ t. t.items ≡ marks_text (map note_of ms)) → IfOk result (λ t. text ≡ t.items) → OnErr result (text ≡ refusal_text Memory) → Told d q text d
marks_told d ms q text result same is_known made is wanting = text_told d q Marks text result is_known (IfOk-weaker result _ _ (λ t e. of_marks t.items (e ∙ ap (λ ns. marks_text (map note_of ns)) same)) made) is wanting
  where
    of_marks : (bytes : List ℕ) → bytes ≡ marks_text (map note_of d.marks) → Told d Marks bytes d
    of_marks bytes e = subst (λ us. Told d Marks us d) (sym e) (record { start = refl; tells = λ st at. (st, marks at.marks, at) })

-- what a firing does
pub rules_told : (d : DeskView) (q : Question) (text : List ℕ) (result : Result (Vec ℕ Global) AllocError) → q ≡ Rules
    → IfOk result (λ t. t.items ≡ RULES.now) → IfOk result (λ t. text ≡ t.items) → OnErr result (text ≡ refusal_text Memory) → Told d q text d
rules_told d q text result is_known made is wanting = text_told d q Rules text result is_known (IfOk-weaker result _ _ (λ t e. subst (λ us. Told d Rules us d) (sym e) (record { start = refl; tells = λ st at. (st, of_bench rules, at) })) made) is wanting

-- what can be asked for
pub help_told : (d : DeskView) (q : Question) (text : List ℕ) (result : Result (Vec ℕ Global) AllocError) → q ≡ Help
    → IfOk result (λ t. t.items ≡ HELP.now) → IfOk result (λ t. text ≡ t.items) → OnErr result (text ≡ refusal_text Memory) → Told d q text d
help_told d q text result is_known made is wanting = text_told d q Help text result is_known (IfOk-weaker result _ _ (λ t e. subst (λ us. Told d Help us d) (sym e) (record { start = refl; tells = λ st at. (st, help, at) })) made) is wanting

-- no pair is active
pub nothing_told : (d : DeskView) → ((e : Event) → IsActive d.bench.start (standing (set_of d.bench)) e → ⊥) → Told d Step (refusal_text NotActive) d
nothing_told d none = record {
  start = refl;
  tells = λ st at. (st, nothing_active (normal_at d.bench none st.bench at.bench), at);
}

-- the active pair with the least lead is fired
pub step_told : (old new : DeskView) (e : Event) (p : Pair) (text : List ℕ) → ((st : State) → IsAt old.bench st → IsLeastActive old.bench.start (events st) e) → p ≡ pair e
    → TurnsByRequest old (Bench (Fire p)) text new → Told old Step text new
step_told old new e p text least is t = record {
  start = t.start;
  tells = λ st at. (
      let r = t.replies st at in
      (r.0, stepped (least st.bench at.bench) (subst (λ n. RepliesToRequest old.bench.start st (Bench (Fire n)) text r.0) is r.1), r.2)
      );
}

-- the active pair with the least lead is fired, again and again
pub steps_told : (d : DeskView) (v new : BenchView) (ms : List NamedView) (q : Question) (most : ℕ) (text : List ℕ) → record { bench = v; marks = ms } ≡ d → q ≡ Steps most
    → StepsBench v most text new → Told d q text (record { bench = new; marks = ms })
steps_told d v new ms q most text same is u =
    subst (λ k. Told d k text (record { bench = new; marks = ms })) (sym is) (subst (λ e. Told e (Steps most) text (record { bench = new; marks = ms })) same (record {
      start = u.start;
      tells = λ st at. (let r = u.replies st.bench at.bench in (record st { bench = r.0 }, stepped_often r.1, record { bench = r.2; marks = at.marks }));
    }))

-- what was fired last is undone
pub unstep_told : (d : DeskView) (v new : BenchView) (ms : List NamedView) (q : Question) (most : ℕ) (text : List ℕ) → record { bench = v; marks = ms } ≡ d → q ≡ Unstep most
    → UnstepsBench v most text new → Told d q text (record { bench = new; marks = ms })
unstep_told d v new ms q most text same is u =
    subst (λ k. Told d k text (record { bench = new; marks = ms })) (sym is) (subst (λ e. Told e (Unstep most) text (record { bench = new; marks = ms })) same (record {
      start = u.start;
      tells = λ st at. (let r = u.replies st.bench at.bench in (record st { bench = r.0 }, unstepped r.1, record { bench = r.2; marks = at.marks }));
    }))
