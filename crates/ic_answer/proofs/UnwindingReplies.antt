-- What undoing more than one event at once answers.
use Rattle.std.proofs.Common.{◌≡◌, ◌≢◌, ℕ, ◌+◌, ◌≤◌, ◌<◌, List, [], ◌∷◌, ◌++◌, length, map, reverse, take, get_or, codes, Result, Err, IfErr, IfOk, OnErr, Vec, Global, refl, sym, ap, ap₂, subst, append_assoc, append-nil, arith, ◌∙◌}
use Rattle.std.specs.Prelude.{MatchResult}
use Rattle.std.specs.Fmt.{decimal}
use Rattle.std.specs.declared.alloc.AllocError.{AllocError}
use Rattle.std.specs.List.{flat_map}
use Rattle.std.specs.List.Sorted.{IsStrictlySortedBy}
use Rattle.std.proofs.lemmas.List.{length-map, length-append, take_more}
use Rattle.std.proofs.lemmas.List.Concat.{flat_map-append}
use Rattle.ic_name.specs.Events.{Pair, pair}
use Rattle.ic_name.specs.declared.ids.EventId.{EventId}
use Rattle.ic_name.specs.declared.limits.TheConstants.{MAX_LINES}
use Rattle.ic_theory.specs.Starts.{Start}
use Rattle.ic_theory.specs.Causes.{canonical_cmp}
use Rattle.ic_theory.specs.Machine.{State, events, IsHistory}
use Rattle.ic_theory.proofs.Machines.{history_length}
use Rattle.ic_path.specs.Orders.{IsIn}
use Rattle.ic_roster.specs.Rosters.{Stander}
use Rattle.ic_set.specs.Orders.{IsAny}
use Rattle.ic_journal.specs.Views.{BenchView}
use Rattle.ic_journal.specs.Benches.{IsAt, IsBench, fired_in}
use Rattle.ic_undo.specs.Undone as bench
use Rattle.ic_undo.specs.Unwinding as bench_faults
use Rattle.ic_undo.specs.declared.faults.UnwindFault.{UnwindFault}
use Rattle.ic_undo.specs.declared.faults.UndoAllFault.{UndoAllFault}
use Rattle.ic_journal.specs.Undone.{AreFree, AreUndone, undoing}
use Rattle.ic_undo.proofs.Backs.{map-reverse}
use Rattle.ic_undo.proofs.FreeOrders.{AreWithDependents, in_free_order, resting_with_dependents, all_with_dependents}
use Rattle.ic_undo.proofs.Unwinds.{each_once_back}
use Rattle.ic_command.specs.declared.command.Command.{Command}
use Rattle.ic_command.specs.declared.command.Command.TheVariants.{Unwind, UndoAll}
use Rattle.ic_answer.specs.declared.answer.Answer.{Answer}
use Rattle.ic_answer.specs.declared.refused.Refused.TheVariants as refused
use Rattle.ic_answer.specs.CommandReplies.{RepliesToCommand, MayWant, unwind_not_standing, unwind_history_full, unwound, undo_all_history_full, undone_all}
use Rattle.ic_answer.specs.Texts.{answer_text, event_line, pair_line, unwound_text, undone_all_text, refusal_text}
use Rattle.ic_answer.specs.Changed.{HasChanged}
use Rattle.ic_answer.specs.Turns.{Tells, TurnsByCommand}
use Rattle.ic_answer.specs.Unwinding.{RestsOn, AreUndoneInTurn, events_of}
use Rattle.ic_answer.proofs.ChangedEvents.{undoing_changes}
use Rattle.ic_answer.proofs.StandingCauses.{named_event, none_named}
use Rattle.ic_answer.proofs.TurnSteps.{tells_memory}
use Rattle.ic_answer.proofs.UndoneInTurn.{EndsSo, undone_in_turn}
use Rattle.ic_answer.proofs.UndoingReplies.{Stands}
use Rattle.ic_answer.proofs.UntoldTurns.{untold, told_or_refused}
use Rattle.ic_answer.proofs.UnwoundEvents.{last_first_at, dont_fit_at, any_same, resting_same}

-- the events of a list, the last one in canonical order first, are in a free order from its end
pub free_back : (v : BenchView) (P : Stander → Type 0) (xs : List Stander) → IsBench v → AreWithDependents v P
    → bench.AreLastFirst v P xs → AreFree v (reverse xs)
free_back v P xs ok closed h = in_free_order v P (map (λ x. x.id) (reverse xs)) ok closed (record {
  order = reverse xs;
  each = each_once_back xs h.each;
  canonical = λ rank r. subst (λ es. IsStrictlySortedBy (canonical_cmp rank) es) (sym (map-reverse (λ (x : Stander). x.event) xs)) (h.backwards rank r);
  named = refl;
})

-- what a bench undoes, the machine undoes in turn
pub record AreUndoneSo (old new : BenchView) (st : State) (xs : List Stander) : Type 0 where
  pub next : State
  pub did : AreUndoneInTurn old.start st (map fired_in xs) next
  pub at : IsAt new next

undone_so : (old new : BenchView) (P : Stander → Type 0) (names : List Pair) → IsBench old → IsBench new
    → AreWithDependents old P → (u : bench.IsUnwound old P names new) → (st : State) → IsAt old st
    → AreUndoneSo old new st u.undone
undone_so old new P names ok lawful closed u st at = record {
  next = ends.next;
  did = ends.did;
  at = record {
    history = subst (λ (s : Start). IsHistory s new.lines ends.next) (sym u.did.start) (subst (λ ls. IsHistory old.start ls ends.next) (sym u.did.lines) ends.history);
    standing = ends.there;
  };
}
  where
    few : st.lines + length u.undone ≤ MAX_LINES
    few =
        let short = lawful.running.short in
        let count = history_length at.history in
        let whole = ap length u.did.lines ∙ length-append old.lines (map undoing u.undone) in
        let undone = length-map u.undone undoing in
        omega (arith, short, count, whole, undone)

    ends : EndsSo old ok.set.own_lines (reverse u.undone) (free_back old P u.undone ok closed u.which) old.lines u.undone new.events st
    ends = undone_in_turn old ok.set.own_lines (reverse u.undone) (free_back old P u.undone ok closed u.which) old.lines u.undone new.events st refl u.did.events at.history at.standing few

-- how many they are
named_length : (old new : BenchView) (P : Stander → Type 0) (names : List Pair) → (u : bench.IsUnwound old P names new)
    → length (events_of (map fired_in u.undone)) ≡ length names
named_length old new P names u =
    length-map (map fired_in u.undone) (λ x. x.event) ∙ length-map u.undone fired_in ∙ sym (length-map u.undone (λ x. pair x.event)) ∙ ap length u.named

-- the lines with their names
named_lines : (xs : List Stander)
    → flat_map event_line (events_of (map fired_in xs)) ≡ flat_map (pair_line []) (map (λ x. pair x.event) xs)
named_lines [] = refl
named_lines (x ∷ xs) = ap (λ t. event_line x.event ++ t) (named_lines xs)

-- the text with their names
named_text : (old new : BenchView) (P : Stander → Type 0) (names : List Pair) → (u : bench.IsUnwound old P names new)
    → codes "unwound " ++ decimal (length names) ++ codes "\n" ++ flat_map (pair_line []) names ≡ unwound_text (events_of (map fired_in u.undone))
named_text old new P names u =
    ap₂ (λ n t. codes "unwound " ++ decimal n ++ codes "\n" ++ t) (sym (named_length old new P names u)) (sym (named_lines u.undone ∙ ap (flat_map (pair_line [])) u.named))

module _ (old new : BenchView) (ok : IsBench old) (lawful : IsBench new) where
  -- an event is undone with all that rests on it
  pub unwinds : (d : EventId) (p : Pair) (x : Stander) (names : List Pair) (text : List ℕ) → Stands old d p x
      → bench.IsUnwound old (bench.RestsOn old d.line) names new
      → text ≡ codes "unwound " ++ decimal (length names) ++ codes "\n" ++ flat_map (pair_line []) names → TurnsByCommand old (Unwind p) text new
  unwinds d p x names text h u e = record { start = u.did.start; replies = replies }
    where
      own : bench.IsUnwound old (bench.RestsOn old x.id.line) names new
      own = subst (λ (c : EventId). bench.IsUnwound old (bench.RestsOn old c.line) names new) (sym h.under) u

      replies : (st : State) → IsAt old st → (next : State) × RepliesToCommand old.start st (Unwind p) text next × IsAt new next
      replies st at =
          let did = undone_so old new (bench.RestsOn old x.id.line) names ok lawful (resting_with_dependents old x.id.line) own st at in
          let last_first = last_first_at old ok at (bench.RestsOn old x.id.line) (RestsOn old.start (events st) x.event) (resting_same old ok at x h.there) own.undone own.which in
          let text_is = e ∙ named_text old new (bench.RestsOn old x.id.line) names own in
          (did.next, subst (λ t. RepliesToCommand old.start st (Unwind p) t did.next) (sym text_is) (unwound (named_event old p at x h.there h.name) last_first did.did), did.at)

  -- all events are undone
  pub undoes_all : (n : ℕ) (text : List ℕ) → bench.IsCleared old n new → text ≡ undone_all_text n → TurnsByCommand old UndoAll text new
  undoes_all n text c e = record { start = c.did.start; replies = replies }
    where
      unwound_so : bench.IsUnwound old IsAny (map (λ x. pair x.event) c.undone) new
      unwound_so = record { undone = c.undone; which = c.which; did = c.did; named = refl }

      count : n ≡ length (map fired_in c.undone)
      count = c.counted ∙ sym (length-map c.undone fired_in)

      replies : (st : State) → IsAt old st → (next : State) × RepliesToCommand old.start st UndoAll text next × IsAt new next
      replies st at =
          let did = undone_so old new IsAny (map (λ x. pair x.event) c.undone) ok lawful (all_with_dependents old) unwound_so st at in
          let last_first = last_first_at old ok at IsAny (λ f. Unit {0}) (any_same old ok at) c.undone c.which in
          let text_is = e ∙ ap undone_all_text count in
          (did.next, subst (λ t. RepliesToCommand old.start st UndoAll t did.next) (sym text_is) (undone_all last_first did.did), did.at)

  -- a line for each of the events that rest on one doesn't fit
  pub unwind_doesnt_fit : (d : EventId) (p : Pair) (x : Stander) → Stands old d p x
      → bench_faults.DontFit old (bench.RestsOn old d.line) → new ≡ old
      → TurnsByCommand old (Unwind p) (refusal_text refused.HistoryFull) new
  unwind_doesnt_fit d p x h full same = record {
    start = ap (λ (v : BenchView). v.start) same;
    replies = λ st at. (
        let own = subst (λ (c : EventId). bench_faults.DontFit old (bench.RestsOn old c.line)) (sym h.under) full in
        let many = dont_fit_at old ok at (bench.RestsOn old x.id.line) (RestsOn old.start (events st) x.event) (resting_same old ok at x h.there) own in
        (st, unwind_history_full (named_event old p at x h.there h.name) many.1 many.2, subst (λ (v : BenchView). IsAt v st) (sym same) at)
        );
  }

  -- nor one for each event
  pub undo_all_doesnt_fit : bench_faults.DontFit old IsAny → new ≡ old
      → TurnsByCommand old UndoAll (refusal_text refused.HistoryFull) new
  undo_all_doesnt_fit full same = record {
    start = ap (λ (v : BenchView). v.start) same;
    replies = λ st at. (
        let many = dont_fit_at old ok at IsAny (λ f. Unit {0}) (any_same old ok at) full in
        (st, undo_all_history_full many.1 many.2, subst (λ (v : BenchView). IsAt v st) (sym same) at)
        );
  }

-- what undoing all events does, where the fault is known
pub all_fault_known : {X : Type 0} (old new : BenchView) (result : Result X UndoAllFault) (f known : UndoAllFault)
    → result ≡ Err f → f ≡ known
    → IfErr result (λ fault. bench_faults.ArentUndone old fault new) → bench_faults.ArentUndone old known new
all_fault_known {X} old new result f known is same h = subst (λ (r : Result X UndoAllFault). IfErr r (λ fault. bench_faults.ArentUndone old fault new)) (is ∙ ap (λ (g : UndoAllFault). Err g) same) h

-- and undoing an event with all that rests on it
pub fault_known : {X : Type 0} (old new : BenchView) (d : EventId) (result : Result X UnwindFault) (f known : UnwindFault)
    → result ≡ Err f → f ≡ known
    → IfErr result (λ fault. bench_faults.IsntUnwound old d fault new) → bench_faults.IsntUnwound old d known new
fault_known {X} old new d result f known is same h = subst (λ (r : Result X UnwindFault). IfErr r (λ fault. bench_faults.IsntUnwound old d fault new)) (is ∙ ap (λ (g : UnwindFault). Err g) same) h

-- an event of a name that none on the bench has doesn't stand
pub tells_not_standing : (v : BenchView) (p : Pair) → ((x : Stander) → IsIn x v.events → pair x.event ≢ p)
    → Tells v (Unwind p) (refusal_text refused.NotStanding)
tells_not_standing v p none st at = unwind_not_standing (none_named v p at none)

-- one name more has its line in the text
pub lines_more : (head text next : List ℕ) (names : List Pair) (i : ℕ) (none name : Pair) → i < length names
    → text ≡ head ++ flat_map (pair_line []) (take i names) → name ≡ get_or names i none
    → next ≡ text ++ pair_line [] name → next ≡ head ++ flat_map (pair_line []) (take (i + 1) names)
lines_more head text next names i none name few before is more =
    let before_it = flat_map (pair_line []) (take i names) in
    let one : flat_map (pair_line []) (name ∷ []) ≡ pair_line [] name = append-nil (pair_line [] name) in
    let taken = ap (λ n. take i names ++ n ∷ []) is ∙ sym (take_more names i none few) in
    let lines = ap (λ t. before_it ++ t) (sym one) ∙ sym (flat_map-append (pair_line []) (take i names) (name ∷ [])) ∙ ap (flat_map (pair_line [])) taken in
    more ∙ ap (λ t. t ++ pair_line [] name) before ∙ append_assoc head before_it (pair_line [] name) ∙ ap (λ t. head ++ t) lines

-- no line was added where nothing was undone
few_lines : {old new : BenchView} {undone : List Stander} → AreUndone old undone new → length undone ≡ 0 → length new.lines ≤ length old.lines
few_lines {old} {new} {undone} did none =
    let whole = ap length did.lines ∙ length-append old.lines (map undoing undone) in
    let lines = length-map undone undoing in
    omega (arith, whole, lines, none)

-- what is told of undoing so many events, or a refusal where there were none
pub undoes_or_refused : (old new : BenchView) (c : Command) (count : ℕ) (undone : List Stander) (known : List ℕ) (text : Result (Vec ℕ Global) AllocError) (result : Result Answer AllocError)
    → IsBench new → MayWant c → count ≡ length undone → AreUndone old undone new → TurnsByCommand old c known new → IfOk text (λ t. t.items ≡ known)
    → IfOk text (λ t. IfOk result (λ a. answer_text a ≡ t.items))
    → OnErr text (IfOk result (λ a. (answer_text a ≡ refusal_text refused.Memory) × (count ≡ 0)))
    → MatchResult result (λ a. TurnsByCommand old c (answer_text a) new) (λ _. new.start ≡ old.start)
undoes_or_refused old new c count undone known text result lawful want counted did turns is told instead =
    told_or_refused (λ t. TurnsByCommand old c t new) (new.start ≡ old.start) (count ≡ 0) known text result refused.Memory turns
    (λ none. untold old new c (refusal_text refused.Memory) lawful did.start (record { more = map undoing undone; lines = did.lines }) (tells_memory old c want) (few_lines did (sym counted ∙ none)))
    did.start is told instead

-- undoing so many events changes what stands, if there are any
pub undoing_so_many : (old new : BenchView) (count : ℕ) (undone : List Stander) → count ≡ length undone → AreUndone old undone new → 0 < count → HasChanged old new
undoing_so_many old new count undone counted did some = undoing_changes old new undone did (omega (arith, counted, some))

-- as many events have names as were undone
pub vec_count : {old new : BenchView} {P : Stander → Type 0} (names : Vec Pair Global) → (u : bench.IsUnwound old P names.items new) → names.len ≡ length u.undone
vec_count names u =
    let named = ap length u.named in
    let undone = length-map u.undone (λ x. pair x.event) in
    let counted = names.ok.0 in
    omega (arith, named, undone, counted)
