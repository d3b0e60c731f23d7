-- An event that no line changed since stands now where it stood then, and only there.
use Rattle.std.proofs.Common.{◌≡◌, ℕ, ◌≤◌, List, [], ◌∷◌, ◌++◌, Some, slice_get, length, ◌⊎◌, inl, inr, refl, sym, ap, subst, arith, ◌∙◌, length-append, append-nil, append_assoc}
use Rattle.std.proofs.lemmas.List.{same_from_push}
use Rattle.ic_name.specs.Events.{Event}
use Rattle.ic_name.specs.declared.lines.Call.{Call}
use Rattle.ic_name.specs.declared.lines.Line.{Line}
use Rattle.ic_name.specs.declared.lines.Reply.{Reply}
use Rattle.ic_path.specs.Orders.{IsIn}
use Rattle.ic_path.proofs.Alikes.{alike_back, alike-in, alike-map}
use Rattle.ic_path.proofs.Picks.{in_more, in_others, in_picked, in-cons_cases, pick-map}
use Rattle.ic_theory.specs.Starts.{Start, IsProper}
use Rattle.ic_theory.specs.Machine.{Standing, State, events, MachineStep, not_active, deep, full, fired, not_standing, held, undone, IsHistory, begins, goes_on}
use Rattle.ic_theory.proofs.Machines.{history_length}
use Rattle.ic_roster.specs.Rosters.{Stander}
use Rattle.ic_journal.specs.Benches.{IsBench}
use Rattle.ic_journal.specs.Changed.{IsFiredIn, IsChanged}
use Rattle.ic_journal.specs.Views.{BenchView}
use Rattle.ic_journal.proofs.FiredLines.{first_behind, AreFiredIn, fired_lines}
use Rattle.ic_journal.proofs.MachineSteps.{events_at}
use Rattle.ic_undo.specs.GoingBack.{IsOutside, IsMissing}
use Rattle.ic_undo.specs.Marks.{MarkView}
use Rattle.ic_undo.specs.Stood.{StoodAt}
use Rattle.ic_path.proofs.InLists.{in-map}
use Rattle.ic_undo.proofs.SameHistories.{same_history}

-- a list that isn't empty has a last element
last_of : (x : Line) (xs : List Line) → (init : List Line) × (last : Line) × (x ∷ xs ≡ init ++ last ∷ [])
last_of x [] = ([], x, refl)
last_of x (y ∷ ys) = let r = last_of y ys in (x ∷ r.0, r.1, ap (λ zs. x ∷ zs) r.2)

-- no list with an element behind it is empty
not_empty : (front : List Line) (x : Line) (xs : List Line) → [] ≡ front ++ x ∷ xs → ⊥
not_empty [] x xs e = cc
not_empty (y ∷ front) x xs e = cc

-- between two states an event that no line from one on changed stands in both or in none
record IsStill (all : List Line) (n : ℕ) (then now : State) : Type 0 where
  stands : (e : Event) → IsIn e (events then) → IsIn e (events now) ⊎ IsChanged all n e
  stood : (e : Event) → IsIn e (events now) → IsIn e (events then) ⊎ IsChanged all n e

-- a line more
still_next : {s : Start} {st next then : State} {call : Call} {reply : Reply} (all : List Line) (n : ℕ) → n ≤ st.lines → slice_get all st.lines ≡ Some (record { call = call; reply = reply })
    → MachineStep s st call reply next → AreFiredIn all st → IsStill all n then st → IsStill all n then next
still_next all n late at (not_active a) h k = record { stands = k.stands; stood = k.stood }
still_next all n late at (deep a d) h k = record { stands = k.stands; stood = k.stood }
still_next all n late at (full a d f) h k = record { stands = k.stands; stood = k.stood }
still_next {st = st} all n late at (fired {e = f} a d g) h k = record {
  stands = λ e i. elim (k.stands e i) [ inl j ↦ inl (in_more f j) | inr c ↦ inr c ];
  stood = λ e i. elim (in-cons_cases i) [
    | inl q ↦ inr (st.lines, late, inl (subst (λ (x : Event). IsFiredIn all st.lines x) (sym q) at))
    | inr j ↦ k.stood e j
  ];
}
still_next all n late at (not_standing a) h k = record { stands = k.stands; stood = k.stood }
still_next all n late at (held i e j l) h k = record { stands = k.stands; stood = k.stood }
still_next {st = st} all n late at (undone {l = l} {x = x} {rest = rest} p line a) h k = record {
  stands = λ e i. elim (k.stands e i) [
    | inl j ↦ elim (in_others (pick-map (λ (y : Standing). y.event) p) j) [
      | inl q ↦ inr (st.lines, late, inr (l, at, subst (λ m. IsFiredIn all m e) line (subst (λ (f : Event). IsFiredIn all x.line f) (sym q) (h x (rest, p)))))
      | inr r ↦ inl r
    ]
    | inr c ↦ inr c
  ];
  stood = λ e i. k.stood e (in_picked (pick-map (λ (y : Standing). y.event) p) i);
}

module _ (s : Start) (ok : IsProper s) (all front : List Line) (then : State) (begun : IsHistory s front then) where
  -- after the same lines the same stands
  still_then : {lines : List Line} {st : State} → IsHistory s lines st → lines ≡ front ++ [] → IsStill all (length front) then st
  still_then h e =
      let a = alike-map (λ (x : Standing). x.event) (same_history s ok (e ∙ append-nil front) h begun) in
      record { stands = λ f i. inl (alike-in (alike_back a) i); stood = λ f i. inl (alike-in a i) }

  -- and so on, line by line
  still_since : {lines : List Line} {st : State} → IsHistory s lines st → (middle others : List Line) → lines ≡ front ++ middle → all ≡ lines ++ others → IsStill all (length front) then st
  still_since begins [] others e whole = still_then begins e
  still_since begins (x ∷ xs) others e whole = absurd (not_empty front x xs e)
  still_since (goes_on h a) [] others e whole = still_then (goes_on h a) e
  still_since (goes_on {lines = lines} {st = st} {call = call} {reply = reply} h a) (x ∷ xs) others e whole =
      let line : Line = record { call = call; reply = reply } in
      let last = last_of x xs in
      let parts = same_from_push lines (front ++ last.0) _ _ (e ∙ ap (λ zs. front ++ zs) last.2 ∙ sym (append_assoc front last.0 (last.1 ∷ []))) in
      let rest : all ≡ lines ++ line ∷ others = whole ∙ append_assoc lines (line ∷ []) others in
      let count = history_length h in
      let at : slice_get all st.lines ≡ Some line = ap (slice_get all) count ∙ ap (λ zs. slice_get zs (length lines)) rest ∙ first_behind lines line others in
      let long = ap length parts.0 ∙ length-append front last.0 in
      still_next all (length front) (omega (arith, count, long)) at a (fired_lines all (line ∷ others) h rest) (still_since h last.0 (line ∷ others) parts.0 rest)

module _ (v : BenchView) (ok : IsBench v) (m : MarkView) (count : ℕ) (t : StoodAt v count m) where
  -- from the time when just the mark's events stood until now
  still_now : IsStill v.lines count t.state ok.running.state
  still_now = subst (λ n. IsStill v.lines n t.state ok.running.state) t.counted
      (still_since v.start ok.set.proper v.lines t.front t.state t.history ok.running.at.history t.rest [] (sym t.lines) (sym (append-nil v.lines)))

  -- what stands and isn't in the mark has been changed
  pub outside_changed : (x : Stander) → IsIn x v.events → IsOutside m x → IsChanged v.lines count x.event
  outside_changed x i out =
      let there = alike-in (events_at v ok.running.at) (in-map (λ (y : Stander). y.event) i) in
      elim (still_now.stood x.event there) [ inl j ↦ absurd (out (alike-in t.events j)) | inr c ↦ c ]

  -- and so has what is missing
  pub missing_changed : (e : Event) → IsMissing v m e → IsChanged v.lines count e
  missing_changed e missing = elim (still_now.stands e (alike-in (alike_back t.events) missing.0)) [
    | inl j ↦ absurd (missing.1 (alike-in (alike_back (events_at v ok.running.at)) j))
    | inr c ↦ c
  ]
