-- A firing of a new event makes one more known.
use Rattle.std.proofs.Common.{◌≡◌, ◌↔◌, ℕ, zero, suc, ◌+◌, ◌<◌, ◌⊎◌, List, [], ◌∷◌, ◌++◌, inl, inr, length, map, refl, sym, ap, arith, subst, ◌∙◌, None}
use Rattle.std.proofs.lemmas.List.{length_push}
use Rattle.ic_name.specs.Events.{Event, Pair, pair}
use Rattle.ic_path.specs.Orders.{here, IsIn, more}
use Rattle.ic_path.specs.Rings.{HasEachOnce}
use Rattle.ic_path.proofs.Alikes.{alike_then, alike_back, append-alike-comm}
use Rattle.ic_path.proofs.Picks.{in_first, in_more, in-cons_cases, none_in}
use Rattle.ic_path.proofs.InLists.{map_cases, in-map, in-append_cases, in_behind}
use Rattle.ic_set.proofs.KeptRanks.{part_ranks, in_whole}
use Rattle.ic_theory.specs.Starts.{Start, IsProper}
use Rattle.ic_theory.specs.Active.{IsActive}
use Rattle.ic_theory.specs.Causes.{IsCause, IsRank}
use Rattle.ic_theory.specs.Firings.{fired}
use Rattle.ic_theory.specs.Future.{Includes}
use Rattle.ic_theory.specs.Sound.{IsSound}
use Rattle.ic_theory.proofs.Normal.{active-alike}
use Rattle.ic_theory.proofs.Ranks.{sound_order, sound-alike, cause_in, rank_one}
use Rattle.ic_trace.specs.declared.known.Known.{Known}
use Rattle.ic_trace.specs.Known.{events_in, event_at, rank_at, IsNumberOf, AreNumbersOf, IsRankAbove, IsKnown, AreKnown}
use Rattle.ic_trace.proofs.ByNumber.{events-append, event_at-append, event_in}
use Rattle.ic_trace.proofs.KnownEvents.{led_once, lead_numbered}
use Rattle.ic_trace.proofs.SameCauses.{same_cause}
use Rattle.ic_trace.proofs.Swapped.{fired_is_sound}

-- the entry of a number
pub record Entry (ks : List Known) (i : ℕ) : Type 0 where
  pub known : Known
  pub there : IsIn known ks
  pub event : event_at ks i ≡ known.event
  pub rank : rank_at ks i ≡ known.rank

pub entry_at : (ks : List Known) (i : ℕ) → i < length ks → Entry ks i
entry_at [] i h = absurd (omega arith)
entry_at (k ∷ ks) zero h = record { known = k; there = in_first k ks; event = refl; rank = refl }
entry_at (k ∷ ks) (suc i) h = let e = entry_at ks i (omega arith) in record { known = e.known; there = in_more k e.there; event = e.event; rank = e.rank }

-- numbers tell the same events in a longer table
events-of-append : (ks rest : List Known) (js : List ℕ) → ((j : ℕ) → IsIn j js → j < length ks) → map (event_at (ks ++ rest)) js ≡ map (event_at ks) js
events-of-append ks rest [] h = refl
events-of-append ks rest (j ∷ js) h = λ i. event_at-append ks rest j (h j (in_first j js)) i ∷ events-of-append ks rest js (λ x m. h x (in_more j m)) i

-- events that are led as others are those
same_events : (s : Start) (ks : List Known) → IsSound s (events_in ks) → (cs : List Event) (js : List ℕ) → ((c : Event) → IsIn c cs → IsIn c (events_in ks)) → ((j : ℕ) → IsIn j js → j < length ks)
    → map (λ j. (event_at ks j).lead) js ≡ map (λ (p : Pair). p.lead) (map pair cs) → map (event_at ks) js ≡ cs
same_events s ks h [] [] f g e = refl
same_events s ks h [] (j ∷ js) f g e = cc
same_events s ks h (c ∷ cs) [] f g e = cc
same_events s ks h (c ∷ cs) (j ∷ js) f g e =
    let l : (event_at ks j).lead ≡ c.lead = cc in
    let t : map (λ j. (event_at ks j).lead) js ≡ map (λ (p : Pair). p.lead) (map pair cs) = cc in
    let one : event_at ks j ≡ c = led_once s h (event_in ks j (g j (in_first j js))) (f c (in_first c cs)) l in
    let r = same_events s ks h cs js (λ x m. f x (in_more c m)) (λ x m. g x (in_more j m)) t in
    λ i. one i ∷ r i

module _ (s : Start) (ok : IsProper s) (ks : List Known) (known : AreKnown s ks) (e : Event) (a : IsActive s (events_in ks) e) where
  -- the events with the new one
  all : List Event
  all = events_in ks ++ e ∷ []

  pub with_new : IsSound s (events_in ks ++ e ∷ [])
  with_new =
      let o = sound_order s ok (events_in ks) known.sound in
      sound-alike s (alike_then (more here (alike_back o.1)) (append-alike-comm (e ∷ []) (events_in ks))) (fired_is_sound s ok (fired o.2 (active-alike s o.1 a)))

  -- those of before are a part
  part : Includes (events_in ks ++ e ∷ []) (events_in ks)
  part = record { others = e ∷ []; alike = append-alike-comm (e ∷ []) (events_in ks) }

  -- the new event is no cause of itself
  own_cause : IsCause s (events_in ks ++ e ∷ []) e e → ⊥
  own_cause c = let l = with_new.ranked.above e e (in_behind (events_in ks) (in_first e [])) c in absurd (omega arith)

  module _ (now : List Event) (sound : IsSound s now) (within : Includes (events_in ks ++ e ∷ []) now) (there : IsIn e now) where
    -- the causes of the new event are known
    pub cause_known : (c : Event) → IsCause s now e c → IsIn c (events_in ks)
    cause_known c q = elim (in-append_cases (events_in ks) (in_whole within (cause_in s q))) [
      | inl i ↦ i
      | inr i ↦ elim (in-cons_cases i) [ inl h ↦ absurd (own_cause (same_cause s ok sound with_new (in_behind (events_in ks) (in_first e [])) (subst (λ x. IsCause s now e x) h q))) | inr n ↦ absurd (none_in n) ]
    ]

    module _ (cs : List Event) (each : HasEachOnce (IsCause s now e) cs) where
      -- the names of causes are those of known events
      pub names_known : (p : Pair) → IsIn p (map pair cs) → ¬ (IsNumberOf ks p.lead None)
      names_known p i = let c = map_cases pair cs i in subst (λ (q : Pair). ¬ (IsNumberOf ks q.lead None)) c.2 (lead_numbered ks (cause_known c.0 (each.only c.0 c.1)))

      module _ (k : Known) (is : k.event ≡ e) (numbers : AreNumbersOf ks (map pair cs) k.causes.items) (above : IsRankAbove ks k.causes.items k.rank) where
        -- the events of the numbers are the causes
        are_causes : map (event_at ks) k.causes.items ≡ cs
        are_causes = same_events s ks known.sound cs k.causes.items (λ c i. cause_known c (each.only c i)) numbers.inside numbers.leads

        there_too : IsIn e (events_in ks ++ e ∷ [])
        there_too = in_behind (events_in ks) (in_first e [])

        -- which a number tells
        cause_of : (j : ℕ) → IsIn j k.causes.items → IsCause s (events_in ks ++ e ∷ []) e (event_at ks j)
        cause_of j i = same_cause s ok sound with_new there_too (each.only (event_at ks j) (rw (← are_causes) (in-map (event_at ks) i)))

        cause_number : (c : Event) → IsCause s (events_in ks ++ e ∷ []) e c → IsIn c (map (event_at ks) k.causes.items)
        cause_number c q = rw are_causes (each.each c (same_cause s ok with_new sound there q))

        -- ranks of known events are ranks of all
        rank_stays : (x : Event) → IsIn x (events_in ks) → known.sound.rank x ≡ with_new.rank x
        rank_stays x i = rank_one s (events_in ks) known.sound.rank with_new.rank known.sound.ranked (part_ranks s ok with_new.rank with_new known.sound part with_new.ranked) x i

        rank_of : (j : ℕ) → j < length ks → rank_at ks j ≡ with_new.rank (event_at ks j)
        rank_of j h = let n = entry_at ks j h in n.rank ∙ (known.ranks n.known n.there ∙ rw n.event (rank_stays n.known.event (in-map (λ (x : Known). x.event) n.there)))

        -- the new rank is right
        rank_is : k.rank ≡ with_new.rank e
        rank_is = go above.least (with_new.ranked.least e there_too)
          where
            go : (k.rank ≡ 0) ⊎ ((j : ℕ) × IsIn j k.causes.items × (k.rank ≡ rank_at ks j + 1)) → (with_new.rank e ≡ 0) ⊎ ((c : Event) × IsCause s (events_in ks ++ e ∷ []) e c × (with_new.rank e ≡ with_new.rank c + 1)) → k.rank ≡ with_new.rank e
            go (inl z) (inl y) = z ∙ sym y
            go (inl z) (inr w) =
                let j = map_cases (event_at ks) k.causes.items (cause_number w.0 w.1) in
                let l = above.above j.0 j.1 in
                absurd (omega arith)
            go (inr v) (inl y) =
                let l = with_new.ranked.above e (event_at ks v.0) there_too (cause_of v.0 v.1) in
                absurd (omega arith)
            go (inr v) (inr w) =
                let l = with_new.ranked.above e (event_at ks v.0) there_too (cause_of v.0 v.1) in
                let r = rank_of v.0 (numbers.inside v.0 v.1) in
                let j = map_cases (event_at ks) k.causes.items (cause_number w.0 w.1) in
                let m = above.above j.0 j.1 in
                let q = rank_of j.0 (numbers.inside j.0 j.1) in
                let same : with_new.rank (event_at ks j.0) ≡ with_new.rank w.0 = ap with_new.rank j.2 in
                let x = v.2 in
                let y = w.2 in
                omega arith

        -- the table with the new event
        longer : events_in (ks ++ k ∷ []) ≡ events_in ks ++ e ∷ []
        longer = events-append ks (k ∷ []) ∙ ap (λ x. events_in ks ++ x ∷ []) is

        low : k.rank < length (ks ++ k ∷ [])
        low = let n = length_push ks k in go above.least
          where
            go : (k.rank ≡ 0) ⊎ ((j : ℕ) × IsIn j k.causes.items × (k.rank ≡ rank_at ks j + 1)) → k.rank < length (ks ++ k ∷ [])
            go (inl z) = let n = length_push ks k in omega arith
            go (inr v) =
                let n = length_push ks k in
                let x = entry_at ks v.0 (numbers.inside v.0 v.1) in
                let l = (known.each x.known x.there).low in
                let r = x.rank in
                let y = v.2 in
                omega arith

        of_new : (c : Event) → IsCause s (events_in ks ++ e ∷ []) e c ↔ IsIn c (map (event_at (ks ++ k ∷ [])) k.causes.items)
        of_new c = rw (events-of-append ks (k ∷ []) k.causes.items numbers.inside) (λ q. cause_number c q, λ i. let j = map_cases (event_at ks) k.causes.items i in subst (λ x. IsCause s (events_in ks ++ e ∷ []) e x) j.2 (cause_of j.0 j.1))

        of_known : (x : Known) → IsIn x ks → (c : Event) → IsCause s (events_in ks ++ e ∷ []) x.event c ↔ IsIn c (map (event_at (ks ++ k ∷ [])) x.causes.items)
        of_known x i c =
            let h = known.each x i in
            let w = h.causes c in
            let at = in-map (λ (y : Known). y.event) i in
            rw (events-of-append ks (k ∷ []) x.causes.items h.inside) (λ q. w.0 (same_cause s ok with_new known.sound at q), λ j. same_cause s ok known.sound with_new (in_whole part at) (w.1 j))

        longer_sound : IsSound s (events_in (ks ++ k ∷ []))
        longer_sound = rw longer with_new

        -- whose ranks are those of all
        ranks_stay : (x : Event) → IsIn x (events_in ks ++ e ∷ []) → with_new.rank x ≡ longer_sound.rank x
        ranks_stay x i = let r : IsRank s (events_in (ks ++ k ∷ [])) longer_sound.rank = longer_sound.ranked in rank_one s (events_in ks ++ e ∷ []) with_new.rank longer_sound.rank with_new.ranked (rw longer at r) x i

        still_known : (x : Known) → IsIn x ks → IsKnown s (ks ++ k ∷ []) x
        still_known x i =
            let h = known.each x i in
            let n = length_push ks k in
            record { inside = λ j m. (let l = h.inside j m in omega arith); causes = λ c. rw longer (of_known x i c); low = let l = h.low in omega arith }

        now_known : IsKnown s (ks ++ k ∷ []) k
        now_known =
            let n = length_push ks k in
            record {
              inside = λ j m. (let l = numbers.inside j m in omega arith);
              causes = λ c. rw longer (subst (λ (x : Event). IsCause s (events_in ks ++ e ∷ []) x c ↔ IsIn c (map (event_at (ks ++ k ∷ [])) k.causes.items)) (sym is) (of_new c));
              low = low;
            }

        of_entry : {P : Known → Type 0} → ((x : Known) → IsIn x ks → P x) → P k → (x : Known) → IsIn x (ks ++ k ∷ []) → P x
        of_entry {P} old new x i = elim (in-append_cases ks i) [ inl j ↦ old x j | inr j ↦ elim (in-cons_cases j) [ inl q ↦ subst P (sym q) new | inr none ↦ absurd (none_in none) ] ]

        pub known_more : AreKnown s (ks ++ k ∷ [])
        known_more = record {
          sound = longer_sound;
          each = of_entry still_known now_known;
          ranks = of_entry (λ x i. (let at = in-map (λ (y : Known). y.event) i in known.ranks x i ∙ (rank_stays x.event at ∙ ranks_stay x.event (in_whole part at))))
              (rank_is ∙ (ap with_new.rank (sym is) ∙ ranks_stay k.event (subst (λ (x : Event). IsIn x (events_in ks ++ e ∷ [])) (sym is) there_too)));
        }
