-- The events that rest on one, reached from dependent to dependent.
use Rattle.std.proofs.Common.{◌≡◌, ℕ, ◌+◌, ◌≤◌, ◌<◌, List, [], ◌∷◌, ◌++◌, map, length, get_or, take, ◌⊎◌, inl, inr, refl, sym, ap, subst, arith, ◌∙◌}
use Rattle.std.proofs.lemmas.List.{length-map, take_more, take_all, take-append-le}
use Rattle.ic_name.specs.declared.ids.EventId.{EventId}
use Rattle.ic_path.specs.Orders.{here, IsIn, IsOnce}
use Rattle.ic_path.specs.Rings.{HasEachOnce}
use Rattle.ic_path.proofs.EachOnce.{once_rest}
use Rattle.ic_path.proofs.InLists.{in-map, map_cases, in-append_cases}
use Rattle.ic_path.proofs.Picks.{none_in, in_first, in_more, in_others, in-cons_cases, length-pick, pick-map}
use Rattle.ic_theory.specs.Causes.{IsCause}
use Rattle.ic_roster.specs.Rosters.{Stander}
use Rattle.ic_set.specs.Orders.{AreInOrder, DependsOn}
use Rattle.ic_set.specs.Removal.{Stands}
use Rattle.ic_set.specs.Sets.{IsStandingSet}
use Rattle.ic_set.specs.Views.{standing}
use Rattle.ic_journal.specs.Reads.{StandsIn}
use Rattle.ic_journal.specs.Views.{BenchView, set_of}
use Rattle.ic_undo.specs.Resting.{IsRestingId, PutsBehind}
use Rattle.ic_undo.specs.Undone.{RestsOn, itself, through}
use Rattle.ic_undo.proofs.Places.{parts, in_at}
use Rattle.ic_undo.proofs.RestingCauses.{same_line}
use Rattle.ic_undo.proofs.RestingLines.{lines_of, line_still}

-- a list whose elements are all in another, and there once, is no longer
once_few : {X : Type 0} (xs ys : List X) → IsOnce xs → ((x : X) → IsIn x xs → IsIn x ys) → length xs ≤ length ys
once_few [] ys once all = omega arith
once_few {X} (x ∷ xs) ys once all =
    let i = all x (in_first x xs) in
    let long = length-pick i.1 in
    let few = once_few xs i.0 (once_rest once here) (λ z j. other z j (in_others i.1 (all z (in_more x j)))) in
    omega (arith, long, few)
  where
    other : {rest : List X} (z : X) → IsIn z xs → (z ≡ x) ⊎ IsIn z rest → IsIn z rest
    other z j (inl e) = absurd (once x xs here (subst (λ w. IsIn w xs) e j))
    other z j (inr l) = l

-- the ids are those of events that rest on the line, that of the line among them, and the direct dependents of the first so
-- many are among them
pub record AreReached (v : BenchView) (line : ℕ) (ids : List EventId) (k : ℕ) : Type 0 where
  pub only : (d : EventId) → IsIn d ids → IsRestingId v line d
  pub first : IsIn line (lines_of ids)
  pub closed : (x y : Stander) → IsIn x v.events → IsIn x.id (take k ids) → IsIn y v.events → IsCause v.start (standing (set_of v)) y.event x.event → IsIn y.id.line (lines_of ids)

-- at first it is the event of the line alone
pub reached_first : (v : BenchView) (d : EventId) → Stands (set_of v) d → (ids : List EventId) → PutsBehind [] (d ∷ []) ids → AreReached v d.line ids 0
reached_first v d (x, i, e) ids p = record {
  only = λ c j. elim (in-cons_cases (p.only c (subst (IsIn c) p.behind j))) [
    | inl q ↦ (x, i, e ∙ sym q, itself (ap (λ (o : EventId). o.line) e))
    | inr r ↦ absurd (none_in r)
  ];
  first = p.lines d (in_first d []);
  closed = λ y z j k. absurd (none_in k);
}

module _ (v : BenchView) (set : IsStandingSet (set_of v)) (line : ℕ) (ids : List EventId) (k : ℕ) (h : AreReached v line ids k) where
  -- an event with one of their lines is one of them
  id_in : (x : Stander) → IsIn x v.events → IsIn x.id.line (lines_of ids) → IsIn x.id ids
  id_in x i j =
      let d = map_cases (λ (o : EventId). o.line) ids j in
      let y = h.only d.0 d.1 in
      let same : y.0 ≡ x = same_line v.events y.0 x set.own_lines y.1 i (ap (λ (o : EventId). o.line) y.2 ∙ d.2) in
      subst (λ o. IsIn o ids) (sym y.2 ∙ ap (λ (z : Stander). z.id) same) d.1

  -- where all have been looked at, they are those of all that rest on the line
  pub reached_all : length ids ≤ k → IsOnce (lines_of ids) → HasEachOnce (IsRestingId v line) ids
  reached_all past once = record {
    each = λ d r. subst (λ o. IsIn o ids) r.2 (id_in r.0 r.1 (there r.1 r.3));
    only = h.only;
    once = λ d rest p i. once d.line (lines_of rest) (pick-map (λ (o : EventId). o.line) p) (in-map (λ (o : EventId). o.line) i);
  }
    where
      there : {x : Stander} → IsIn x v.events → RestsOn v line x → IsIn x.id.line (lines_of ids)
      there i (itself e) = subst (λ n. IsIn n (lines_of ids)) (sym e) h.first
      there {x} i (through {y = y} j r c) = h.closed y x j (subst (IsIn y.id) (sym (take_all k ids past)) (id_in y j (there j r))) i c

  -- they are no more than there are standing events
  pub reached_few : IsOnce (lines_of ids) → length ids ≤ length v.events
  reached_few once =
      let few = once_few (lines_of ids) (map (λ (x : Stander). x.id.line) v.events) once standing_line in
      let one = length-map ids (λ (o : EventId). o.line) in
      let two = length-map v.events (λ (x : Stander). x.id.line) in
      omega (arith, few, one, two)
    where
      standing_line : (n : ℕ) → IsIn n (lines_of ids) → IsIn n (map (λ (x : Stander). x.id.line) v.events)
      standing_line n i =
          let d = map_cases (λ (o : EventId). o.line) ids i in
          let x = h.only d.0 d.1 in
          subst (λ m. IsIn m (map (λ (x : Stander). x.id.line) v.events)) (ap (λ (o : EventId). o.line) x.2 ∙ d.2) (in-map (λ (z : Stander). z.id.line) x.1)

  module _ (d : EventId) (below : k < length ids) where
    -- the next one stands
    pub next_stands : (x : Stander) × StandsIn v (get_or ids k d) x
    next_stands = let x = h.only (get_or ids k d) (in_at ids k d (get_or ids k d) below refl) in (x.0, (x.1, ap (λ (o : EventId). o.line) x.2))

    -- where its direct dependents are put behind them, one more has been looked at
    pub reached_more : (dependents new : List EventId) (x : Stander) → StandsIn v (get_or ids k d) x → AreInOrder (set_of v) (DependsOn (set_of v) x.id) dependents → PutsBehind ids dependents new → AreReached v line new (k + 1)
    reached_more dependents new x s a p = record {
      only = λ e i. elim (in-append_cases ids (subst (IsIn e) p.behind i)) [ inl j ↦ h.only e j | inr j ↦ dependent e (p.only e j) ];
      first = still line h.first;
      closed = λ y z i j l c. elim (parts (take k ids) (subst (IsIn y.id) those j)) [
        | inl m ↦ still z.id.line (h.closed y z i m l c)
        | inr m ↦ elim m [
          | inl q ↦ p.lines z.id (subst (IsIn z.id) a.named (in-map (λ (w : Stander). w.id) (a.each.each z (l, (x, s.0, refl, cause y z i q c)))))
          | inr r ↦ absurd (none_in r)
        ]
      ];
    }
      where
        still : (n : ℕ) → IsIn n (lines_of ids) → IsIn n (lines_of new)
        still n i = subst (λ es. IsIn n (lines_of es)) (sym p.behind) (line_still n ids p.put i)

        those : take (k + 1) new ≡ take k ids ++ get_or ids k d ∷ []
        those = ap (take (k + 1)) p.behind ∙ take-append-le (k + 1) ids p.put (omega (arith, below)) ∙ take_more ids k d below

        cause : (y z : Stander) → IsIn y v.events → y.id ≡ get_or ids k d → IsCause v.start (standing (set_of v)) z.event y.event → IsCause v.start (standing (set_of v)) z.event x.event
        cause y z i q c = subst (λ (w : Stander). IsCause v.start (standing (set_of v)) z.event w.event) (same_line v.events y x set.own_lines i s.0 (ap (λ (o : EventId). o.line) q ∙ sym s.1)) c

        resting : (y : Stander) → IsIn y v.events → y.id ≡ x.id → RestsOn v line y
        resting y i q =
            let z = h.only (get_or ids k d) (in_at ids k d (get_or ids k d) below refl) in
            subst (RestsOn v line) (same_line v.events z.0 y set.own_lines z.1 i (ap (λ (o : EventId). o.line) z.2 ∙ sym s.1 ∙ ap (λ (o : EventId). o.line) (sym q))) z.3

        dependent : (e : EventId) → IsIn e dependents → IsRestingId v line e
        dependent e i =
            let y = map_cases (λ (w : Stander). w.id) a.order (subst (IsIn e) (sym a.named) i) in
            let on = a.each.only y.0 y.1 in
            (y.0, on.0, y.2, through on.1.1 (resting on.1.0 on.1.1 on.1.2) on.1.3)
