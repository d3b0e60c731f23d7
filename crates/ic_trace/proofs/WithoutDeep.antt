-- Sound sets with events before them whose children no event can name.
use Rattle.std.proofs.Common.{◌≡◌, ◌≤◌, List, [], ◌∷◌, ◌++◌, ◌⊎◌, inl, inr, sym, ap, arith}
use Rattle.ic_name.specs.Names.{Name}
use Rattle.ic_name.specs.Events.{Event}
use Rattle.ic_path.specs.Orders.{here, IsIn, Alike, more}
use Rattle.ic_path.proofs.Alikes.{alike_back, alike_then, alike_past, alike-in, picked_alike}
use Rattle.ic_path.proofs.Picks.{in_first, in_more, in_picked, in-cons_cases, pick_before, pick_behind}
use Rattle.ic_theory.specs.Active.{IsActive}
use Rattle.ic_theory.specs.Causes.{IsCause}
use Rattle.ic_theory.specs.Firings.{IsFired, AreAfterCauses}
use Rattle.ic_theory.specs.Future.{Includes}
use Rattle.ic_theory.specs.Machine.{IsDeep}
use Rattle.ic_theory.specs.Sets.{consumed_times}
use Rattle.ic_theory.specs.Sound.{IsSound}
use Rattle.ic_theory.specs.Starts.{Start, IsProper}
use Rattle.ic_theory.proofs.Closed.{cause_stays}
use Rattle.ic_theory.proofs.Future.{consumed_in, includes_self, includes_more, last_active, loose_agent, pick_part, same_links, there_or_active, trail_included, unequal}
use Rattle.ic_theory.proofs.Machines.{fire_sound}
use Rattle.ic_theory.proofs.Normal.{active-alike}
use Rattle.ic_theory.proofs.Ranks.{cause_in, sound-alike, sound_order}
use Rattle.ic_theory.proofs.Sound.{fired_sound, sound_fired}
use Rattle.ic_theory.proofs.Swaps.{undo_sound}
use Rattle.ic_trace.specs.DeepEvents.{AreShallow}
use Rattle.ic_trace.proofs.DeepLinks.{deep_free}

module _ (s : Start) (ok : IsProper s) where
  -- a causal order is one in the set with an event more
  after_more : (e : Event) (all part : List Event) → IsSound s (e ∷ all) → IsSound s all → ((f : Event) → IsIn f part → IsIn f all) → AreAfterCauses s all part → AreAfterCauses s (e ∷ all) part
  after_more e all [] h k within after = tt
  after_more e all (f ∷ part) h k within after = (
    λ c q. after.0 c (cause_stays s ok h.apart (includes_more e (includes_self all)) k (within f (in_first f part)) q),
    after_more e all part h k (λ g i. within g (in_more f i)) after.1,
  )

  -- an event is active in a sound set that is sound with it, too
  pub active_before : (e : Event) (es : List Event) → IsSound s (e ∷ es) → IsSound s es → IsActive s es e
  active_before e es h k = active-alike s (alike_back order.1) (last_active fired)
    where
      order : (order : List Event) × Alike es order × IsFired s order
      order = sound_order s ok es k

      whole : IsSound s (e ∷ order.0)
      whole = sound-alike s (more here order.1) h

      before : IsSound s order.0 × AreAfterCauses s order.0 order.0
      before = fired_sound s ok order.0 order.2

      behind : (c : Event) → IsCause s (e ∷ order.0) e c → (c ≡ e) ⊎ IsIn c order.0 → IsIn c order.0
      behind c q (inl same) = let less = whole.ranked.above e c (in_first e order.0) q in let equal = ap whole.rank same in absurd (omega (arith, less, equal))
      behind c q (inr i) = i

      fired : IsFired s (e ∷ order.0)
      fired = sound_fired s ok (e ∷ order.0) whole (λ c q. behind c q (in-cons_cases (cause_in s q)), after_more e order.0 order.0 whole before.0 (λ f i. i) before.1)

  -- an active event has in a larger set the causes that it had
  pub cause_shallow : {all es : List Event} {e c : Event} → ((n : Name) → consumed_times n all ≤ 1) → Includes all es → IsActive s es e → IsCause s all e c → IsCause s es e c
  cause_shallow {all} {es} {e} {c} apart part active q =
      let p = active.wire.path in
      let t = trail_included s part p.trail in
      let same = same_links s ok all apart e.lead e.other (λ x. unequal active.present.ordered (sym x)) q.path.trail t.1 in
      record { path = p; link = q.link; on_path = rw same at q.on_path; made = q.made }

  -- a sound set without its deep events is sound
  pub without_deep : (ds es : List Event) → ((d : Event) → IsIn d ds → IsDeep d) → AreShallow (ds ++ es) → IsSound s (ds ++ es) → IsSound s es
  without_deep [] es deep shallow sound = sound
  without_deep (d ∷ ds) es deep shallow sound =
      without_deep ds es (λ x i. deep x (in_more d i)) (λ x i. shallow x (in_more d i))
      (undo_sound s ok sound here (λ f i q. deep_free s ok (d ∷ (ds ++ es)) sound shallow d (deep d (in_first d ds)) f i q))

  module _ (ds es : List Event) (deep : (d : Event) → IsIn d ds → IsDeep d) (sound : IsSound s (ds ++ es)) (part : IsSound s es) where
    -- an event more behind the deep ones
    put_behind : (e : Event) → Alike (e ∷ (ds ++ es)) (ds ++ e ∷ es)
    put_behind e = alike_past (e ∷ []) ds es

    -- an event that is active with them is active without them
    pub active_shallow : (e : Event) → AreShallow (e ∷ (ds ++ es)) → IsActive s (ds ++ es) e → IsActive s es e
    active_shallow e shallow active =
        let more_sound = sound-alike s (put_behind e) (fire_sound s ok sound active) in
        active_before e es (without_deep ds (e ∷ es) deep (λ f i. shallow f (alike-in (alike_back (put_behind e)) i)) more_sound) part

    -- and the other way round, where it isn't one of them
    pub active_whole : (e : Event) → (IsIn e ds → ⊥) → IsActive s es e → IsActive s (ds ++ es) e
    active_whole e other active = by (there_or_active s ok e order.2 included active)
      where
        order : (order : List Event) × Alike (ds ++ es) order × IsFired s order
        order = sound_order s ok (ds ++ es) sound

        included : Includes order.0 es
        included = record { others = ds; alike = order.1 }

        not_there : IsIn e es → ⊥
        not_there i = let none = loose_agent s es e.lead active.wire.from_loose in let some = consumed_in i.1 in omega (arith, none, some)

        by : Includes order.0 (e ∷ es) ⊎ IsActive s order.0 e → IsActive s (ds ++ es) e
        by (inl c) =
            let there : IsIn e (ds ++ es) = alike-in (alike_back order.1) (alike-in c.alike (_, pick_behind c.others here)) in
            absurd (elim (pick_part ds es there.1) [ inl i ↦ other i | inr i ↦ not_there i ])
        by (inr a) = active-alike s (alike_back order.1) a

    -- each of them is active without them
    pub deep_active : (d : Event) → IsIn d ds → AreShallow (ds ++ es) → IsActive s es d
    deep_active d i shallow =
        let moved : Alike (ds ++ es) (i.0 ++ d ∷ es) = alike_then (picked_alike (pick_before es i.1)) (alike_past (d ∷ []) i.0 es) in
        active_before d es
        (without_deep i.0 (d ∷ es) (λ f j. deep f (in_picked i.1 j)) (λ f j. shallow f (alike-in (alike_back moved) j)) (sound-alike s moved sound)) part
