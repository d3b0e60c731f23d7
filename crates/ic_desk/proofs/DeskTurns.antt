-- What a desk answers, put together.
use Rattle.std.proofs.Common.{◌≡◌, ◌≤◌, ◌<◌, ℕ, List, length, map, Option, None, Result, Ok, Err, IfOk, IfErr, refl, sym, ap, subst, arith, ◌∙◌}
use Rattle.std.specs.Prelude.{MatchResult}
use Rattle.ic_path.specs.Orders.{IsIn, Alike}
use Rattle.ic_path.proofs.Alikes.{alike_back, alike_then}
use Rattle.ic_journal.specs.Views.{BenchView}
use Rattle.ic_journal.specs.Benches.{IsAt, IsBench}
use Rattle.ic_journal.proofs.MachineSteps.{events_at}
use Rattle.ic_undo.specs.declared.faults.BackFault.{BackFault}
use Rattle.ic_undo.specs.declared.faults.Counts.{Counts}
use Rattle.ic_undo.specs.GoingBack.{IsBack, IsntBack, IsPartWay, DontFitBack}
use Rattle.ic_undo.specs.Marks.{MarkView, IsMark, Marks}
use Rattle.ic_command.specs.declared.command.Command.{Command}
use Rattle.ic_command.specs.declared.request.Request.{Request}
use Rattle.ic_command.specs.declared.request.Request.TheVariants.{Bench, Mark, Back}
use Rattle.ic_answer.specs.declared.answer.Answer.{Answer}
use Rattle.ic_answer.specs.declared.refused.Refused.TheVariants.{HistoryFull, Memory, NoMark, TooManyMarks}
use Rattle.ic_answer.specs.Longer.{IsLonger}
use Rattle.ic_answer.specs.Texts.{answer_text, refusal_text}
use Rattle.ic_answer.specs.Turns as bench
use Rattle.ic_desk.specs.Desks.{Noted}
use Rattle.ic_desk.specs.Places.{IsPlace, PutsAt}
use Rattle.ic_desk.specs.Replies.{RepliesToRequest, marked_text, back_text, wanting_text, of_bench, marked, too_many, mark_memory, no_mark, back_history_full, back, back_memory}
use Rattle.ic_desk.specs.Views.{NamedView, DeskView, IsDesk, TurnsByRequest, note_of}
use Rattle.ic_desk.specs.declared.desk.TheConstants.{MAX_MARKS}
use Rattle.ic_desk.proofs.BackReplies.{mark_over, doesnt_fit_at, goes_back, goes_part_way}
use Rattle.ic_desk.proofs.LongerHistories.{back_adds, back_stays}
use Rattle.ic_desk.proofs.Marks.{noted, none_noted, noted_length, puts}
use Rattle.ic_desk.proofs.Stoods.{mark_stays}

-- a bench with marks
abbrev pub desk_of : BenchView → List NamedView → DeskView
desk_of v marks = record { bench = v; marks = marks }

-- the marks stay marks on the bench where its start stays and its history only grows
pub desk_still : (old new : BenchView) (marks : List NamedView) → IsDesk (desk_of old marks) → new.start ≡ old.start → IsLonger old new → IsDesk (desk_of new marks)
desk_still old new marks d same longer = λ x i. mark_stays old new x same longer (d x i)

-- so they do on the way back to a mark, however far it comes
pub desk_on_way : (old new : BenchView) (marks : List NamedView) (m : MarkView) (result : Result Counts BackFault)
    → IfOk result (λ counts. IsBack old m counts new) → IfErr result (λ fault. IsntBack old m fault new) → IsDesk (desk_of old marks) → IsDesk (desk_of new marks)
desk_on_way old new marks m result ok err d = desk_still old new marks d (back_stays old new m result ok err) (back_adds old new m result ok err)

-- the start stays, whatever the answer
pub same_start : {E : Type 0} (old new : BenchView) (marks : List NamedView) (request : Request) (r : Result Answer E)
    → MatchResult r (λ a. TurnsByRequest (desk_of old marks) request (answer_text a) (desk_of new marks)) (λ _. new.start ≡ old.start) → new.start ≡ old.start
same_start old new marks request (Ok a) h = h.start
same_start old new marks request (Err e) h = h

-- marks may be others of the same names and events
same_notes : (old new : BenchView) (marks other : List NamedView) (r : Request) (text : List ℕ) → map note_of other ≡ map note_of marks
    → TurnsByRequest (desk_of old marks) r text (desk_of new marks) → TurnsByRequest (desk_of old marks) r text (desk_of new other)
same_notes old new marks other r text same t = record {
  start = t.start;
  replies = λ st at. (
      let a = t.replies st at in
      (a.0, a.1, record { bench = a.2.bench; marks = subst (λ (ns : List Noted). Alike ns a.0.marks) (sym same) a.2.marks })
      );
}

-- whatever is answered
pub other_notes : {E : Type 0} (old new : BenchView) (marks other : List NamedView) (r : Request) (result : Result Answer E) → map note_of other ≡ map note_of marks
    → MatchResult result (λ a. TurnsByRequest (desk_of old marks) r (answer_text a) (desk_of new marks)) (λ _. new.start ≡ old.start)
    → MatchResult result (λ a. TurnsByRequest (desk_of old marks) r (answer_text a) (desk_of new other)) (λ _. new.start ≡ old.start)
other_notes old new marks other r (Ok a) same h = same_notes old new marks other r (answer_text a) same h
other_notes old new marks other r (Err e) same h = h

-- what going back does, where the fault is known
pub fault_known : {X : Type 0} (old : BenchView) (m : MarkView) (new : BenchView) (result : Result X BackFault) (f known : BackFault)
    → result ≡ Err f → f ≡ known → IfErr result (λ fault. IsntBack old m fault new) → IsntBack old m known new
fault_known {X} old m new result f known is same h = subst (λ (r : Result X BackFault). IfErr r (λ fault. IsntBack old m fault new)) (is ∙ ap (λ (g : BackFault). Err g) same) h

-- a command of the bench
pub bench_turns : (old new : BenchView) (marks : List NamedView) (c : Command) (text : List ℕ) → bench.TurnsByCommand old c text new
    → TurnsByRequest (desk_of old marks) (Bench c) text (desk_of new marks)
bench_turns old new marks c text t = record {
  start = t.start;
  replies = λ st at. (let r = t.replies st.bench at.bench in (record st { bench = r.0 }, of_bench r.1, record { bench = r.2; marks = at.marks }));
}

-- the start stays, whatever the answer
pub command_start : {E : Type 0} (old new : BenchView) (c : Command) (r : Result Answer E)
    → MatchResult r (λ a. bench.TurnsByCommand old c (answer_text a) new) (λ _. new.start ≡ old.start) → new.start ≡ old.start
command_start old new c (Ok a) h = h.start
command_start old new c (Err e) h = h

-- and what a desk is answered that asks for it
pub bench_answer : {E : Type 0} (v : DeskView) (q : Request) (old new : BenchView) (marks : List NamedView) (c : Command) (r : Result Answer E) → desk_of old marks ≡ v → q ≡ Bench c
    → MatchResult r (λ a. bench.TurnsByCommand old c (answer_text a) new) (λ _. new.start ≡ old.start)
    → IfOk r (λ a. TurnsByRequest v q (answer_text a) (desk_of new marks))
bench_answer v q old new marks c (Ok a) is asks h =
    subst (λ (w : DeskView). TurnsByRequest w q (answer_text a) (desk_of new marks)) is
    (subst (λ (p : Request). TurnsByRequest (desk_of old marks) p (answer_text a) (desk_of new marks)) (sym asks) (bench_turns old new marks c (answer_text a) h))
bench_answer v q old new marks c (Err e) is asks h = tt

module _ (v : BenchView) (marks : List NamedView) (name : List ℕ) where
  -- what stands is marked
  pub marks_turns : (new : List NamedView) (place : Option ℕ) (m : MarkView) (since : ℕ) (text : List ℕ) → IsPlace marks name place → (place ≡ None → length marks < MAX_MARKS)
      → PutsAt marks place (record { name = name; mark = m; since = since }) new → Marks v m → text ≡ marked_text name (length m.events)
      → TurnsByRequest (desk_of v marks) (Mark name) text (desk_of v new)
  marks_turns new place m since text p room is k told = record {
    start = refl;
    replies = λ st at. (
        let put = puts marks at.marks new name place (record { name = name; mark = m; since = since }) refl p room is in
        let alike = alike_then (alike_back (events_at v at.bench)) k.events in
        (record st { marks = put.0 }, subst (λ t. RepliesToRequest v.start st (Mark name) t (record st { marks = put.0 })) (sym told) (marked alike put.1), record { bench = at.bench; marks = put.2 })
        );
  }

  -- there are too many marks for one more
  pub too_many_turns : (text : List ℕ) → IsPlace marks name None → MAX_MARKS ≤ length marks → text ≡ refusal_text TooManyMarks
      → TurnsByRequest (desk_of v marks) (Mark name) text (desk_of v marks)
  too_many_turns text none many told = record {
    start = refl;
    replies = λ st at. (
        let count = noted_length marks at.marks in
        (st, subst (λ t. RepliesToRequest v.start st (Mark name) t st) (sym told) (too_many (none_noted marks at.marks name none) (omega (arith, count, many))), at)
        );
  }

  -- memory is wanting for a mark
  pub mark_wants : (new : List NamedView) → new ≡ marks → TurnsByRequest (desk_of v marks) (Mark name) (refusal_text Memory) (desk_of v new)
  mark_wants new same = subst (λ ms. TurnsByRequest (desk_of v marks) (Mark name) (refusal_text Memory) (desk_of v ms)) (sym same) (record {
    start = refl;
    replies = λ st at. (st, mark_memory, at);
  })

  -- no mark has the name
  pub no_mark_turns : (text : List ℕ) → IsPlace marks name None → text ≡ refusal_text NoMark
      → TurnsByRequest (desk_of v marks) (Back name) text (desk_of v marks)
  no_mark_turns text none told = record {
    start = refl;
    replies = λ st at. (st, subst (λ t. RepliesToRequest v.start st (Back name) t st) (sym told) (no_mark (none_noted marks at.marks name none)), at);
  }

module _ (old new : BenchView) (ok : IsBench old) (lawful : IsBench new) (marks : List NamedView) (name : List ℕ)
    (x : NamedView) (there : IsIn x marks) (named : x.name ≡ name) (same : x.mark.start ≡ old.start) (k : IsMark x.mark) where
  -- the mark, over the bench's start
  over : IsMark (mark_over old x.mark.events)
  over = subst (λ s. IsMark (record { start = s; events = x.mark.events })) same k

  -- the bench is back
  pub back_turns : (counts : Counts) (text : List ℕ) → IsBack old x.mark counts new → text ≡ back_text name counts.undone counts.fired
      → TurnsByRequest (desk_of old marks) (Back name) text (desk_of new marks)
  back_turns counts text b told = record {
    start = b.did.fired.start ∙ b.did.undone.start;
    replies = λ st at. (
        let own = subst (λ s. IsBack old (record { start = s; events = x.mark.events }) counts new) same b in
        let r = goes_back old ok x.mark.events over st.bench at.bench new lawful counts own in
        (record st { bench = r.0 }, subst (λ t. RepliesToRequest old.start st (Back name) t (record st { bench = r.0 })) (sym told) (back (noted marks at.marks name x there named) r.1), record { bench = r.2; marks = at.marks })
        );
  }

  -- or on its way
  pub part_way_turns : (counts : Counts) (text : List ℕ) → IsPartWay old x.mark counts new → text ≡ wanting_text counts.undone counts.fired
      → TurnsByRequest (desk_of old marks) (Back name) text (desk_of new marks)
  part_way_turns counts text b told = record {
    start = b.did.fired.start ∙ b.did.undone.start;
    replies = λ st at. (
        let own = subst (λ s. IsPartWay old (record { start = s; events = x.mark.events }) counts new) same b in
        let r = goes_part_way old ok x.mark.events over st.bench at.bench new lawful counts own in
        (record st { bench = r.0 }, subst (λ t. RepliesToRequest old.start st (Back name) t (record st { bench = r.0 })) (sym told) (back_memory (noted marks at.marks name x there named) r.1), record { bench = r.2; marks = at.marks })
        );
  }

  -- or the history has no room
  pub no_room_turns : DontFitBack old x.mark → new ≡ old → TurnsByRequest (desk_of old marks) (Back name) (refusal_text HistoryFull) (desk_of new marks)
  no_room_turns h stayed = record {
    start = ap (λ (v : BenchView). v.start) stayed;
    replies = λ st at. (
        let own = subst (λ s. DontFitBack old (record { start = s; events = x.mark.events })) same h in
        let many = doesnt_fit_at old ok x.mark.events over st.bench at.bench own in
        (st, back_history_full (noted marks at.marks name x there named) many.2 many.3 many.4, record { bench = subst (λ (v : BenchView). IsAt v st.bench) (sym stayed) at.bench; marks = at.marks })
        );
  }
