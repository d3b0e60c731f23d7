-- What a desk answers to absorbing events.
use Rattle.std.proofs.Common.{◌≡◌, ◌≤◌, ℕ, List, [], length, map, Result, Ok, Err, IfErr, IfOk, OnErr, refl, sym, ap, subst, arith, length-append, ◌∙◌}
use Rattle.std.proofs.lemmas.List.{length-map}
use Rattle.std.specs.Prelude.{MatchResult}
use Rattle.std.specs.declared.alloc.AllocError.{AllocError}
use Rattle.std.specs.Global.{Vec}
use Rattle.ic_name.specs.Events.{Pair}
use Rattle.ic_name.specs.declared.lines.Reply.TheVariants as reply
use Rattle.ic_journal.specs.Views.{BenchView}
use Rattle.ic_journal.specs.Benches.{IsBench}
use Rattle.ic_undo.specs.Absorbing as bench
use Rattle.ic_undo.specs.GoingBack.{firing}
use Rattle.ic_undo.specs.declared.faults.AbsorbFault.{AbsorbFault}
use Rattle.ic_undo.specs.declared.faults.AbsorbFault.TheVariants as fault
use Rattle.ic_undo.specs.declared.obstacle.Obstacle.{Obstacle}
use Rattle.ic_command.specs.declared.request.Request.TheVariants.{Absorb}
use Rattle.ic_answer.specs.declared.answer.Answer.{Answer}
use Rattle.ic_answer.specs.declared.refused.Refused.TheVariants.{Deep, Full, HistoryFull, Memory}
use Rattle.ic_answer.specs.Texts.{answer_text, refusal_text}
use Rattle.ic_answer.specs.Unwinding as undone
use Rattle.ic_answer.proofs.UntoldTurns.{still_there, told_or_refused}
use Rattle.ic_desk.specs.Absorbs as runs
use Rattle.ic_desk.specs.Replies.{RepliesToRequest, absorbed_text, never_text, absorbed, never_active, absorb_deep, absorb_full, absorb_history_full, absorb_memory}
use Rattle.ic_desk.specs.Views.{NamedView, TurnsByRequest}
use Rattle.ic_desk.proofs.AbsorbReplies.{fits, fits_not, absorbed_at, comes_and_goes, nothing_said, refused_so, never_at, stays_deep, stays_full}
use Rattle.ic_desk.proofs.DeskTurns.{desk_of}

-- what absorbing does, where the fault is known
pub absorb_fault_known : {X : Type 0} (old : BenchView) (names : List Pair) (new : BenchView) (result : Result X AbsorbFault) (f known : AbsorbFault)
    → result ≡ Err f → f ≡ known → IfErr result (λ why. bench.AbsorbsNone old names why new) → bench.AbsorbsNone old names known new
absorb_fault_known {X} old names new result f known is same h = subst (λ (r : Result X AbsorbFault). IfErr r (λ why. bench.AbsorbsNone old names why new)) (is ∙ ap (λ (g : AbsorbFault). Err g) same) h

module _ (old new : BenchView) (ok : IsBench old) (lawful : IsBench new) (marks : List NamedView) (names : Vec Pair) where
  -- all listed events stand
  pub absorbed_turns : (count : ℕ) (text : List ℕ) → bench.Absorbs old names.items count new → text ≡ absorbed_text count
      → TurnsByRequest (desk_of old marks) (Absorb names) text (desk_of new marks)
  absorbed_turns count text h told = record {
    start = h.fired.start;
    replies = λ st at. (
        let r = absorbed_at old new ok lawful names.items st.bench at.bench count h in
        (record st { bench = r.1 }, subst (λ t. RepliesToRequest old.start st (Absorb names) t (record st { bench = r.1 })) (sym (told ∙ ap absorbed_text r.4)) (absorbed r.2 r.3), record { bench = r.5; marks = at.marks })
        );
  }

  -- one of them can't come to stand
  pub never_turns : (p : Pair) (why : Obstacle) (text : List ℕ) → bench.AbsorbsNone old names.items (fault.NeverActive p why) new → text ≡ never_text p
      → TurnsByRequest (desk_of old marks) (Absorb names) text (desk_of new marks)
  never_turns p why text (least, (came, none, obstacle, t)) told = record {
    start = t.same.start;
    replies = λ st at. (
        let c = comes_and_goes old new ok lawful names.items st.bench at.bench came [] t in
        let n = never_at old new ok lawful names.items st.bench at.bench came [] _ c p refl none least in
        (record st { bench = c.next }, subst (λ x. RepliesToRequest old.start st (Absorb names) x (record st { bench = c.next })) (sym told) (never_active c.absorbs n.0 n.1 n.2), record { bench = c.at_next; marks = at.marks })
        );
  }

  -- a child's name would be too long
  pub deep_turns : bench.AbsorbsNone old names.items fault.Deep new → TurnsByRequest (desk_of old marks) (Absorb names) (refusal_text Deep) (desk_of new marks)
  deep_turns (came, e, turn, d, t) = record {
    start = t.same.start;
    replies = λ st at. (
        let c = comes_and_goes old new ok lawful names.items st.bench at.bench came _ t in
        let r = refused_so old new ok lawful names.items st.bench at.bench came _ _ c e reply.Deep refl stays_deep turn in
        (record st { bench = c.next }, absorb_deep c.absorbs r.1 r.2, record { bench = c.at_next; marks = at.marks })
        );
  }

  -- there would be too many agents
  pub full_turns : bench.AbsorbsNone old names.items fault.Full new → TurnsByRequest (desk_of old marks) (Absorb names) (refusal_text Full) (desk_of new marks)
  full_turns (came, e, turn, shallow, f, t) = record {
    start = t.same.start;
    replies = λ st at. (
        let c = comes_and_goes old new ok lawful names.items st.bench at.bench came _ t in
        let r = refused_so old new ok lawful names.items st.bench at.bench came _ _ c e reply.Full refl stays_full turn in
        (record st { bench = c.next }, absorb_full c.absorbs r.1 r.2, record { bench = c.at_next; marks = at.marks })
        );
  }

  -- the history would be too long
  pub too_long_turns : bench.AbsorbsNone old names.items fault.HistoryFull new → TurnsByRequest (desk_of old marks) (Absorb names) (refusal_text HistoryFull) (desk_of new marks)
  too_long_turns (long, same) = subst (λ v. TurnsByRequest (desk_of old marks) (Absorb names) (refusal_text HistoryFull) (desk_of v marks)) (sym same) (record {
    start = refl;
    replies = λ st at. (st, absorb_history_full (fits_not old old ok ok names.items st.bench at.bench long), at);
  })

  -- memory is wanting
  pub absorb_wants : bench.AbsorbsNone old names.items fault.Memory new → TurnsByRequest (desk_of old marks) (Absorb names) (refusal_text Memory) (desk_of new marks)
  absorb_wants (came, t) = record {
    start = t.same.start;
    replies = λ st at. (
        let c = comes_and_goes old new ok lawful names.items st.bench at.bench came [] t in
        (record st { bench = c.next }, absorb_memory c.absorbs (nothing_said old new ok lawful names.items st.bench at.bench came [] _ c refl), record { bench = c.at_next; marks = at.marks })
        );
  }

  -- one of them can't come to stand, or no memory is left to tell which
  pub never_or_refused : (p : Pair) (why : Obstacle) (text : Result (Vec ℕ) AllocError) (answer : List ℕ) → bench.AbsorbsNone old names.items (fault.NeverActive p why) new
      → IfOk text (λ t. t.items ≡ never_text p) → IfOk text (λ t. answer ≡ t.items) → OnErr text (answer ≡ refusal_text Memory)
      → TurnsByRequest (desk_of old marks) (Absorb names) answer (desk_of new marks)
  never_or_refused p why (Ok t) answer h is told instead = never_turns p why answer h (told ∙ is)
  never_or_refused p why (Err e) answer (least, (came, none, obstacle, t)) is told instead =
      subst (λ x. TurnsByRequest (desk_of old marks) (Absorb names) x (desk_of new marks)) (sym instead) (absorb_wants (came, t))

  -- what is told of absorbing so many events, or a refusal where there were none
  pub absorbs_or_refused : (count : ℕ) (text : Result (Vec ℕ) AllocError) (result : Result Answer AllocError) → bench.Absorbs old names.items count new
      → IfOk text (λ t. t.items ≡ absorbed_text count) → IfOk text (λ t. IfOk result (λ a. answer_text a ≡ t.items))
      → OnErr text (IfOk result (λ a. (answer_text a ≡ refusal_text Memory) × (count ≡ 0)))
      → MatchResult result (λ a. TurnsByRequest (desk_of old marks) (Absorb names) (answer_text a) (desk_of new marks)) (λ _. new.start ≡ old.start)
  absorbs_or_refused count text result h is told instead =
      told_or_refused (λ t. TurnsByRequest (desk_of old marks) (Absorb names) t (desk_of new marks)) (new.start ≡ old.start) (count ≡ 0) (absorbed_text count) text result Memory
      (absorbed_turns count (absorbed_text count) h refl) refused h.fired.start is told instead
    where
      few : count ≡ 0 → length new.lines ≤ length old.lines
      few none =
          let all = ap length h.fired.lines ∙ length-append old.lines (map firing h.came) in
          let lines = length-map h.came firing in
          let counted = h.fired_count in
          omega (arith, none, all, lines, counted)

      refused : count ≡ 0 → TurnsByRequest (desk_of old marks) (Absorb names) (refusal_text Memory) (desk_of new marks)
      refused none = record {
        start = h.fired.start;
        replies = λ st at. (
          st,
          absorb_memory (record { fits = fits old new ok lawful names.items st.bench at.bench h.fits; fired = runs.none }) (record { gone = []; backwards = refl; undid = undone.none }),
          record { bench = still_there old new lawful h.fired.start (record { more = map firing h.came; lines = h.fired.lines }) (few none) st.bench at.bench; marks = at.marks },
        );
      }
