-- Where there is no memory to tell of a way back on which nothing was done.
use Rattle.std.proofs.Common.{◌≡◌, ℕ, ◌+◌, List, [], ◌∷◌, length, inl, Result, IfOk, OnErr, Vec, Global, refl, sym, ap₂, subst, append-nil, arith, ◌∙◌}
use Rattle.std.specs.Prelude.{MatchResult}
use Rattle.std.specs.declared.alloc.AllocError.{AllocError}
use Rattle.std.proofs.lemmas.Fmt.{decimal_digit}
use Rattle.ic_name.specs.Events.{Event}
use Rattle.ic_path.specs.Orders.{IsIn}
use Rattle.ic_theory.specs.Starts.{Start}
use Rattle.ic_theory.specs.Machine as machine
use Rattle.ic_journal.specs.Views.{BenchView}
use Rattle.ic_journal.specs.Benches.{IsBench}
use Rattle.ic_undo.specs.declared.faults.Counts.{Counts}
use Rattle.ic_undo.specs.GoingBack.{IsBack, IsPartWay}
use Rattle.ic_undo.specs.Marks.{IsMark}
use Rattle.ic_command.specs.declared.request.Request.TheVariants.{Back}
use Rattle.ic_answer.specs.declared.answer.Answer.{Answer}
use Rattle.ic_answer.specs.declared.refused.Refused.TheVariants.{MemoryBeforeBack}
use Rattle.ic_answer.specs.Texts.{answer_text, refusal_text}
use Rattle.ic_answer.specs.Unwinding.{events_of}
use Rattle.ic_answer.proofs.UntoldTurns.{told_or_refused}
use Rattle.ic_desk.specs.Backs.{AreOutside, AreMissing, GoesBack, GoesPartWay}
use Rattle.ic_desk.specs.Replies.{RepliesToRequest, back_memory, back_text, wanting_text}
use Rattle.ic_desk.specs.Views.{NamedView, TurnsByRequest}
use Rattle.ic_desk.proofs.BackReplies.{goes_back}
use Rattle.ic_desk.proofs.DeskTurns.{desk_of, back_turns, part_way_turns}
use Rattle.ic_desk.proofs.Marks.{noted}

-- nothing was undone and nothing fired where there were none of either
nothing_done : (counts : Counts) → counts.undone + counts.fired ≡ 0 → (counts.undone ≡ 0) × (counts.fired ≡ 0)
nothing_done counts none = (omega (arith, none), omega (arith, none))

-- a way back on which nothing is done is one on which memory may be wanting
goes_nowhere : {s : Start} {st next : machine.State} {marked : List Event} {undone fired : ℕ} → GoesBack s st marked undone fired next → undone ≡ 0 → fired ≡ 0
    → GoesPartWay s st marked 0 0 next
goes_nowhere {s} {st} {next} {marked} {undone} {fired} g none_undone none_fired = record {
  gone = g.gone;
  others = [];
  came = g.came;
  behind = [];
  mid = g.mid;
  outside = subst (AreOutside s st marked) (sym (append-nil (events_of g.gone))) g.outside;
  missing = subst (AreMissing s st marked) (sym (append-nil g.came)) g.missing;
  undid = g.undid;
  did = g.did;
  undone_count = sym none_undone ∙ g.undone_count;
  fired_count = sym none_fired ∙ g.fired_count;
  in_turn = inl (empty g.gone (sym g.undone_count ∙ none_undone), empty g.came (sym g.fired_count ∙ none_fired));
}
  where
    empty : {A : Type 0} (xs : List A) → length xs ≡ 0 → xs ≡ []
    empty [] e = refl
    empty (x ∷ xs) e = absurd (omega (arith, e))

-- what is told of it then
before_back : wanting_text 0 0 ≡ refusal_text MemoryBeforeBack
before_back = rw (decimal_digit 0 (omega arith)) refl

module _ (old new : BenchView) (ok : IsBench old) (lawful : IsBench new) (marks : List NamedView) (name : List ℕ)
    (x : NamedView) (there : IsIn x marks) (named : x.name ≡ name) (same : x.mark.start ≡ old.start) (k : IsMark x.mark) where
  -- the bench is back without a line, or a refusal says so
  pub back_or_refused : (counts : Counts) (text : Result (Vec ℕ Global) AllocError) (result : Result Answer AllocError) → IsBack old x.mark counts new
      → IfOk text (λ t. t.items ≡ back_text name counts.undone counts.fired)
      → IfOk text (λ t. IfOk result (λ a. answer_text a ≡ t.items))
      → OnErr text (IfOk result (λ a. (answer_text a ≡ refusal_text MemoryBeforeBack) × (counts.undone + counts.fired ≡ 0)))
      → MatchResult result (λ a. TurnsByRequest (desk_of old marks) (Back name) (answer_text a) (desk_of new marks)) (λ _. new.start ≡ old.start)
  back_or_refused counts text result b is told instead =
      told_or_refused (λ t. TurnsByRequest (desk_of old marks) (Back name) t (desk_of new marks)) (new.start ≡ old.start) (counts.undone + counts.fired ≡ 0)
      (back_text name counts.undone counts.fired) text result MemoryBeforeBack
      (back_turns old new ok lawful marks name x there named same k counts (back_text name counts.undone counts.fired) b refl) refused start is told instead
    where
      start : new.start ≡ old.start
      start = b.did.fired.start ∙ b.did.undone.start

      refused : counts.undone + counts.fired ≡ 0 → TurnsByRequest (desk_of old marks) (Back name) (refusal_text MemoryBeforeBack) (desk_of new marks)
      refused nothing = record {
        start = start;
        replies = λ st at. (
            let none = nothing_done counts nothing in
            let own = subst (λ s. IsBack old (record { start = s; events = x.mark.events }) counts new) same b in
            let over = subst (λ s. IsMark (record { start = s; events = x.mark.events })) same k in
            let r = goes_back old ok x.mark.events over st.bench at.bench new lawful counts own in
            let next = record st { bench = r.0 } in
            (next, subst (λ t. RepliesToRequest old.start st (Back name) t next) before_back (back_memory (noted marks at.marks name x there named) (goes_nowhere r.1 none.0 none.1)), record { bench = r.2; marks = at.marks })
            );
      }

  -- or it is on its way
  pub part_way_or_refused : (counts : Counts) (text : Result (Vec ℕ Global) AllocError) (result : Result Answer AllocError) → IsPartWay old x.mark counts new
      → IfOk text (λ t. t.items ≡ wanting_text counts.undone counts.fired)
      → IfOk text (λ t. IfOk result (λ a. answer_text a ≡ t.items))
      → OnErr text (IfOk result (λ a. (answer_text a ≡ refusal_text MemoryBeforeBack) × (counts.undone + counts.fired ≡ 0)))
      → MatchResult result (λ a. TurnsByRequest (desk_of old marks) (Back name) (answer_text a) (desk_of new marks)) (λ _. new.start ≡ old.start)
  part_way_or_refused counts text result b is told instead =
      told_or_refused (λ t. TurnsByRequest (desk_of old marks) (Back name) t (desk_of new marks)) (new.start ≡ old.start) (counts.undone + counts.fired ≡ 0)
      (wanting_text counts.undone counts.fired) text result MemoryBeforeBack (on_way (wanting_text counts.undone counts.fired) refl)
      (λ nothing. let none = nothing_done counts nothing in on_way (refusal_text MemoryBeforeBack) (sym before_back ∙ ap₂ wanting_text (sym none.0) (sym none.1)))
      (b.did.fired.start ∙ b.did.undone.start) is told instead
    where
      on_way : (t : List ℕ) → t ≡ wanting_text counts.undone counts.fired → TurnsByRequest (desk_of old marks) (Back name) t (desk_of new marks)
      on_way t same_text = part_way_turns old new ok lawful marks name x there named same k counts t b same_text
