-- An event that is fired can be undone, and then those before it.
use Rattle.std.proofs.Common.{◌≡◌, List, [], ◌∷◌, ◌++◌, ◌⊎◌, inl, inr, Ok, refl, sym, ap, subst, arith, ◌∙◌}
use Rattle.ic_name.specs.Events.{Event}
use Rattle.ic_name.specs.declared.ids.EventId.{EventId}
use Rattle.ic_path.specs.Orders.{IsIn, Alike, IsOnce}
use Rattle.ic_path.proofs.Alikes.{alike_back, alike-in, alike-map, append-alike-comm}
use Rattle.ic_path.proofs.EachOnce.{once_cons}
use Rattle.ic_path.proofs.Picks.{none_in, in_first, in_more, in-cons_cases, pick_before}
use Rattle.ic_theory.specs.Active.{IsActive}
use Rattle.ic_theory.specs.Causes.{IsCause}
use Rattle.ic_theory.specs.Future.{Includes}
use Rattle.ic_theory.specs.Sound.{IsSound}
use Rattle.ic_theory.proofs.Closed.{cause_stays}
use Rattle.ic_theory.proofs.Ranks.{cause_in}
use Rattle.ic_path.proofs.OnceLists.{once-alike}
use Rattle.ic_roster.specs.Rosters.{Stander}
use Rattle.ic_set.specs.Views.{standing}
use Rattle.ic_journal.specs.Benches.{IsBench}
use Rattle.ic_journal.specs.Calls.{Fires}
use Rattle.ic_journal.specs.Views.{BenchView, set_of}
use Rattle.ic_journal.specs.Undone.{AreFree}
use Rattle.ic_path.proofs.InLists.{in_behind, in-append_cases, in-map}
use Rattle.ic_undo.proofs.Backs.{apart}
use Rattle.ic_undo.proofs.WithinSets.{active_absent}

-- an element of a list with one more at its end is that one, or stands before it
record IsBefore {X : Type 0} (xs : List X) (z : X) (front : List X) (x : X) (rest : List X) : Type 0 where
  left : List X
  whole : xs ≡ front ++ x ∷ left
  last : rest ≡ left ++ z ∷ []

last_or_before : {X : Type 0} (xs : List X) (z : X) (front : List X) (x : X) (rest : List X) → xs ++ z ∷ [] ≡ front ++ x ∷ rest → (x ≡ z) ⊎ IsBefore xs z front x rest
last_or_before [] z [] x rest h = inl cc
last_or_before [] z (y ∷ []) x rest h = absurd cc
last_or_before [] z (y ∷ w ∷ front) x rest h = absurd cc
last_or_before {X} (y ∷ xs) z [] x rest h =
    let first : y ≡ x = cc in
    let same : xs ++ z ∷ [] ≡ rest = cc in
    inr (record { left = xs; whole = ap (λ (w : X). w ∷ xs) first; last = sym same })
last_or_before {X} (y ∷ xs) z (w ∷ front) x rest h =
    let first : y ≡ w = cc in
    let same : xs ++ z ∷ [] ≡ front ++ x ∷ rest = cc in
    elim (last_or_before xs z front x rest same) [
      | inl e ↦ inl e
      | inr b ↦ inr (record { left = b.left; whole = (λ i. first i ∷ b.whole i); last = b.last })
    ]

module _ (mid new : BenchView) (lawful : IsBench mid) (lawful' : IsBench new) (e : Event) (id : EventId) (active : IsActive mid.start (standing (set_of mid)) e) (h : Fires mid e (Ok id) new) where
  -- what stands is what stood with the event
  pub stands_more : Alike (standing (set_of new)) (e ∷ standing (set_of mid))
  stands_more = subst (λ x. Alike (standing (set_of new)) (x ∷ standing (set_of mid))) h.1.event (alike-map (λ (x : Stander). x.event) (alike_back h.1.events))

  -- over one start
  sound : IsSound mid.start (standing (set_of new))
  sound = subst (λ s. IsSound s (standing (set_of new))) h.0.start lawful'.set.sound

  -- an event that stood has the direct causes that it had
  cause_before : (y c : Event) → IsIn y (standing (set_of mid)) → IsCause new.start (standing (set_of new)) y c → IsCause mid.start (standing (set_of mid)) y c
  cause_before y c i k =
      let more : Includes (standing (set_of new)) (standing (set_of mid)) = record { others = e ∷ []; alike = alike_back stands_more } in
      cause_stays mid.start lawful.set.proper sound.apart more lawful.set.sound i (subst (λ s. IsCause s (standing (set_of new)) y c) h.0.start k)

  -- nothing depends on the event
  none_on : (y : Stander) → IsIn y new.events → IsCause new.start (standing (set_of new)) y.event e → ⊥
  none_on y i k = elim (in-cons_cases (alike-in (alike_back h.1.events) i)) [
    | inl q ↦ (
        let same : y.event ≡ e = ap (λ (x : Stander). x.event) q ∙ h.1.event in
        let above = lawful'.set.sound.ranked.above y.event e (in-map (λ (x : Stander). x.event) i) k in
        let level = ap lawful'.set.sound.rank same in
        omega (arith, above, level))
    | inr j ↦ active_absent mid.start (standing (set_of mid)) e e active (cause_in mid.start (cause_before y.event e (in-map (λ (x : Stander). x.event) j) k)) refl
  ]

  -- so it can be undone, and then those that could be
  pub free_more : (order : List Stander) → AreFree mid order → AreFree new (order ++ h.1.entry ∷ [])
  free_more order f = record { there = there; once = once; behind = behind }
    where
      there : (x : Stander) → IsIn x (order ++ h.1.entry ∷ []) → IsIn x new.events
      there x i = elim (in-append_cases order i) [
        | inl j ↦ alike-in h.1.events (in_more h.1.entry (f.there x j))
        | inr j ↦ (elim (in-cons_cases j) [ inl q ↦ alike-in h.1.events (subst (λ y. IsIn y (h.1.entry ∷ mid.events)) (sym q) (in_first h.1.entry mid.events)) | inr k ↦ absurd (none_in k) ])
      ]

      new_there : IsIn h.1.entry order → ⊥
      new_there i = apart new lawful'.set.own_lines (h.1.entry ∷ []) mid.events (alike_back h.1.events) h.1.entry (in_first h.1.entry []) (f.there h.1.entry i)

      once : IsOnce (order ++ h.1.entry ∷ [])
      once = once-alike (append-alike-comm (h.1.entry ∷ []) order) (once_cons new_there f.once)

      behind : (front rest : List Stander) (x y : Stander) → order ++ h.1.entry ∷ [] ≡ front ++ x ∷ rest → IsIn y new.events → IsCause new.start (standing (set_of new)) y.event x.event → IsIn y rest
      behind front rest x y parts i k = elim (last_or_before order h.1.entry front x rest parts) [
        | inl q ↦ absurd (none_on y i (subst (λ c. IsCause new.start (standing (set_of new)) y.event c) (ap (λ (z : Stander). z.event) q ∙ h.1.event) k))
        | inr b ↦ (subst (λ xs. IsIn y xs) (sym b.last) (before b.left b.whole))
      ]
        where
          before : (left : List Stander) → order ≡ front ++ x ∷ left → IsIn y (left ++ h.1.entry ∷ [])
          before left whole = elim (in-cons_cases (alike-in (alike_back h.1.events) i)) [
            | inl q ↦ in_behind left (subst (λ z. IsIn z (h.1.entry ∷ [])) (sym q) (in_first h.1.entry []))
            | inr j ↦ (let r = f.behind front left x y whole j (cause_before y.event x.event (in-map (λ (z : Stander). z.event) j) k) in (r.0 ++ h.1.entry ∷ [], pick_before (h.1.entry ∷ []) r.1))
          ]
