-- A bench of which all events are undone at once, the last of an order first.
use Rattle.std.proofs.Common.{◌≡◌, ◌+◌, ◌≤◌, List, [], ◌∷◌, ◌++◌, map, reverse, length, inl, refl, sym, ap, arith, ◌∙◌, subst, append_assoc}
use Rattle.std.proofs.lemmas.List.{map-append, append-nil, length-map, length-reverse}
use Rattle.std.proofs.lemmas.List.Elements.{All-nil, All-cons, All-append}
use Rattle.ic_name.specs.Names.{Name}
use Rattle.ic_name.specs.Events.{Event}
use Rattle.ic_name.specs.declared.ids.EventId.{EventId}
use Rattle.ic_name.specs.declared.limits.TheConstants.{MAX_LINES}
use Rattle.ic_path.specs.Orders.{Pick, here, IsIn, Alike}
use Rattle.ic_path.proofs.Alikes.{alike_back, alike_pick, alike_then, alike_more, alike-map, alike-in, append-alike-comm}
use Rattle.ic_path.proofs.EachOnce.{once_alike}
use Rattle.ic_path.proofs.Picks.{none_in, pick_before, pick_behind, pick-map}
use Rattle.ic_theory.specs.Causes.{IsCause, IsDependent}
use Rattle.ic_theory.specs.Future.{Includes}
use Rattle.ic_theory.specs.Machine.{Standing, State, events, undone, IsHistory, goes_on}
use Rattle.ic_theory.proofs.Ranks.{cause_included}
use Rattle.ic_path.proofs.InLists.{in_behind, map_cases}
use Rattle.ic_roster.specs.Rosters.{Stander, HaveOwnLines}
use Rattle.ic_set.specs.Cleared.{AreAll, Clears}
use Rattle.ic_set.specs.Views.{NamedView, standing, events_of}
use Rattle.ic_set.proofs.Namings.{same_stander}
use Rattle.ic_history.specs.Noted.{Undone, line_in, AreLinesNamed, IsLineNamed}
use Rattle.ic_history.specs.Histories.{HistoryView}
use Rattle.ic_journal.specs.Views.{BenchView, set_of, view_of}
use Rattle.ic_journal.specs.Benches.{fired_in, IsAt, IsKept}
use Rattle.ic_journal.specs.Undone.{undoing, AreFree, AreIdsOfFree, AreUndoneFrom}
use Rattle.ic_journal.proofs.KeptBenches.{few_lines}
use Rattle.ic_journal.proofs.MachineSteps.{fired_events}
use Rattle.ic_journal.proofs.Reversed.{reverse_more, alike_reverse, map-reverse}

-- an order of standing events whose ids are those of all is the list of what stands
all_alike : (v : BenchView) (order : List Stander) (ids : List EventId) → HaveOwnLines v.events → AreFree v order → AreAll (set_of v) ids → map (λ x. x.id) order ≡ ids → Alike v.events order
all_alike v order ids own free all named = once_alike v.events order (λ x rest k i. own.lines x x rest k i refl) free.once each free.there
  where
    each : (x : Stander) → IsIn x v.events → IsIn x order
    each x i =
        let y = map_cases (λ (z : Stander). z.id) order (subst (IsIn x.id) (sym named) (all.each x i)) in
        subst (λ z. IsIn z order) (same_stander v.events y.0 x own (free.there y.0 y.1) i (inl y.2)) y.1

module _ (v : BenchView) (order : List Stander) (free : AreFree v order) (whole : Alike v.events order) where
  -- the machine, where the events of the second part are undone, and those of the first stand
  record IsAfter (front rest : List Stander) : Type 0 where
    state : State
    history : IsHistory v.start (v.lines ++ map undoing (reverse rest)) state
    standing : Alike (map fired_in front) state.standing

  -- what stands then is a part of what stood
  among : (front rest : List Stander) (st : State) → order ≡ front ++ rest → Alike (map fired_in front) st.standing → Includes (standing (set_of v)) (events st)
  among front rest st parts a = record {
    others = events_of rest;
    alike = alike_then (alike_more (events_of rest) (alike_back (subst (λ es. Alike es (events st)) (fired_events front) (alike-map (λ (y : Standing). y.event) a))))
        (alike_then (append-alike-comm (events_of rest) (events_of front))
        (subst (λ es. Alike es (standing (set_of v))) (ap events_of parts ∙ map-append (λ (y : Stander). y.event) front rest) (alike-map (λ (y : Stander). y.event) (alike_back whole))));
  }

  module _ (front rest : List Stander) (x : Stander) (parts : order ≡ (front ++ x ∷ []) ++ rest) (after : IsAfter (front ++ x ∷ []) rest) where
    -- no event that stands depends on the last one
    not_on : (y : Stander) → IsIn y (front ++ x ∷ []) → IsCause v.start (events after.state) y.event x.event → ⊥
    not_on y i k =
        let there : IsIn y order = subst (IsIn y) (sym parts) (_, pick_before rest i.1) in
        let gone : IsIn y rest = free.behind front rest x y (parts ∙ append_assoc front (x ∷ []) rest) (alike-in (alike_back whole) there) (cause_included v.start (among (front ++ x ∷ []) rest after.state parts after.standing) k) in
        free.once y (i.0 ++ rest) (subst (λ ys. Pick y ys (i.0 ++ rest)) (sym parts) (pick_before rest i.1)) (in_behind i.0 gone)

    -- so the machine undoes it
    step : IsAfter front (x ∷ rest)
    step = record {
      state = record { standing = left.0; lines = after.state.lines + 1 };
      history = subst (λ ls. IsHistory v.start ls (record { standing = left.0; lines = after.state.lines + 1 })) lines (goes_on after.history (undone left.1 refl none));
      standing = subst (λ ys. Alike (map fired_in ys) left.0) (append-nil front) left.2;
    }
      where
        left : (others : List Standing) × Pick (fired_in x) after.state.standing others × Alike (map fired_in (front ++ [])) others
        left = alike_pick after.standing (pick-map fired_in (pick_behind front here))

        none : (f : Event) → ¬ (IsDependent v.start (events after.state) x.event f)
        none f d =
            let y = map_cases (λ (z : Standing). z.event) after.state.standing d.0 in
            let z = map_cases fired_in (front ++ x ∷ []) (alike-in (alike_back after.standing) y.1) in
            let same : f ≡ z.0.event = sym y.2 ∙ sym (ap (λ (w : Standing). w.event) z.2) in
            not_on z.0 z.1 (subst (λ e. IsCause v.start (events after.state) e x.event) same d.1)

        lines : (v.lines ++ map undoing (reverse rest)) ++ undoing x ∷ [] ≡ v.lines ++ map undoing (reverse (x ∷ rest))
        lines = append_assoc v.lines (map undoing (reverse rest)) (undoing x ∷ []) ∙ ap (λ ls. v.lines ++ ls) (sym (map-append undoing (reverse rest) (x ∷ [])) ∙ ap (map undoing) (sym (reverse_more x rest)))

  -- so it undoes each event, from the last one on
  after : (state : State) → IsAt v state → (front rest : List Stander) → order ≡ front ++ rest → IsAfter front rest
  after state at front [] parts = record {
    state = state;
    history = subst (λ ls. IsHistory v.start ls state) (sym (append-nil v.lines)) at.history;
    standing = alike_then (subst (λ ys. Alike (map fired_in ys) (map fired_in v.events)) (parts ∙ append-nil front) (alike-map fired_in (alike_back whole))) at.standing;
  }
  after state at front (x ∷ rest) parts =
      let before : order ≡ (front ++ x ∷ []) ++ rest = parts ∙ sym (append_assoc front (x ∷ []) rest) in
      step front rest x before (after state at (front ++ x ∷ []) rest before)

-- the lines of undone events, with names, are those of the events of the ids
undone_lines : (ns : List Name) (xs : List Stander) → map (line_in ns) (map (λ d. Undone d.line) (map (λ x. x.id) xs)) ≡ map undoing xs
undone_lines ns [] = refl
undone_lines ns (x ∷ xs) = ap (λ ls. undoing x ∷ ls) (undone_lines ns xs)

-- they have no places
undone_named : (ns : List Name) (ids : List EventId) → AreLinesNamed ns (map (λ d. Undone d.line) ids)
undone_named ns [] = All-nil (IsLineNamed ns)
undone_named ns (d ∷ ids) = All-cons (IsLineNamed ns) (Undone d.line) (map (λ e. Undone e.line) ids) tt (undone_named ns ids)

module _ (s t : NamedView) (h k : HistoryView) (is : IsKept s h) (own : HaveOwnLines s.set.events) (names : t.names ≡ s.names) (c : Clears s.set t.set) (ids : List EventId) (all : AreAll s.set ids)
    (more : k.lines ≡ h.lines ++ map (λ d. Undone d.line) (reverse ids)) (room : h.room ≡ k.room + length ids) where
  -- the lines of the events are there
  cleared_lines : (order : List Stander) → map (λ x. x.id) order ≡ ids → (view_of t k).lines ≡ (view_of s h).lines ++ map undoing (reverse order)
  cleared_lines order named =
      ap (map (line_in t.names)) more
      ∙ ap (λ ns. map (line_in ns) (h.lines ++ map (λ d. Undone d.line) (reverse ids))) names
      ∙ map-append (line_in s.names) h.lines (map (λ d. Undone d.line) (reverse ids))
      ∙ ap (λ ds. map (line_in s.names) h.lines ++ map (line_in s.names) (map (λ d. Undone d.line) ds)) (ap reverse (sym named) ∙ sym (map-reverse (λ (x : Stander). x.id) order))
      ∙ ap (λ ls. map (line_in s.names) h.lines ++ ls) (undone_lines s.names (reverse order))

  -- the bench is kept
  pub cleared_kept : AreIdsOfFree (view_of s h) ids → length k.lines + k.room ≤ MAX_LINES → IsKept t k
  cleared_kept (order, free, named) short = record {
    running = record {
      state = end.state;
      at = record {
        history = subst (λ z. IsHistory z (view_of t k).lines end.state) (sym c.start) (subst (λ ls. IsHistory s.set.start ls end.state) (sym (cleared_lines order named)) end.history);
        standing = subst (λ xs. Alike (map fired_in xs) end.state.standing) (sym c.events) end.standing;
      };
      short = few_lines t.names k.lines k.room short;
      serials = record { start = λ m i. is.running.serials.start m (c.agents m i); born = λ x i. absurd (none_in (subst (IsIn x) c.events i)) };
    };
    named = subst (AreLinesNamed t.names) (sym more) (subst (λ ns. AreLinesNamed ns (h.lines ++ map (λ d. Undone d.line) (reverse ids))) (sym names) (All-append (IsLineNamed s.names) h.lines _ is.named (undone_named s.names (reverse ids))));
  }
    where
      end : IsAfter (view_of s h) order free (all_alike (view_of s h) order ids own free all named) [] order
      end = after (view_of s h) order free (all_alike (view_of s h) order ids own free all named) is.running.state is.running.at [] order refl

  -- and all events are undone, in each such order
  pub cleared_undone : AreUndoneFrom (view_of s h) ids (view_of t k)
  cleared_undone order free named = record {
    start = c.start;
    events = subst (λ xs. Alike s.set.events (reverse order ++ xs)) (sym c.events) (subst (Alike s.set.events) (sym (append-nil (reverse order))) (alike_then (all_alike (view_of s h) order ids own free all named) (alike_reverse order)));
    agents = c.agents;
    lines = cleared_lines order named;
    room = (let long = length-reverse order in let count = length-map order (λ (x : Stander). x.id) in let same = ap length named in omega (arith, room, long, count, same));
  }
