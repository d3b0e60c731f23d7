-- Neighbouring letters of concurrent events are accepted either way round.
use Rattle.std.proofs.Common.{◌≡◌, List, [], ◌∷◌, ◌⊎◌, inl, inr, refl, subst, sym, arith}
use Rattle.ic_name.specs.Events.{Event}
use Rattle.ic_path.specs.Orders.{Pick, here, there, Alike, IsIn, more}
use Rattle.ic_path.proofs.Alikes.{alike_self, picked_alike, alike_back}
use Rattle.ic_path.proofs.Picks.{picks_swap, pick_behind}
use Rattle.ic_theory.specs.Starts.{Start, IsProper}
use Rattle.ic_theory.specs.Active.{IsActive}
use Rattle.ic_theory.specs.Causes.{IsCause}
use Rattle.ic_theory.specs.Firings.{IsFired, fired}
use Rattle.ic_theory.specs.Future.{Includes}
use Rattle.ic_theory.specs.Letters.{Letter, Fire, Undo, event_of, HasNoDependent, Runs, fires, undoes, AreConcurrent}
use Rattle.ic_theory.specs.Sets.{consumed_times}
use Rattle.ic_theory.specs.Sound.{IsSound}
use Rattle.ic_theory.proofs.Closed.{cause_stays}
use Rattle.ic_theory.proofs.Future.{earlier, last_active, includes_self, includes_more, in_alike, in_rest, consumed_in, loose_agent, there_or_active}
use Rattle.ic_theory.proofs.Normal.{active-alike}
use Rattle.ic_theory.proofs.Ranks.{cause_included, first_or_in}
use Rattle.ic_theory.proofs.Sound.{fired_sound}
use Rattle.ic_theory.proofs.Swaps.{fired_swap}
use Rattle.ic_trace.proofs.LastFired.{fired_last, free_earlier}
use Rattle.ic_trace.proofs.Runs.{runs-alike}

-- an active event doesn't stand yet
pub not_yet : (s : Start) {e : Event} {es : List Event} → IsActive s es e → IsIn e es → ⊥
not_yet s {e} {es} a i = let z : consumed_times e.lead es ≡ 0 = loose_agent s es e.lead a.wire.from_loose in let y = consumed_in i.1 in absurd (omega arith)

-- a firing is sound
pub fired_is_sound : (s : Start) → IsProper s → {es : List Event} → IsFired s es → IsSound s es
fired_is_sound s ok {es} f = (fired_sound s ok es f).0

-- the set has what is left of it without one event
pub includes_rest : {e : Event} {es rest : List Event} → Pick e es rest → Includes es rest
includes_rest {e} k = record { others = e ∷ []; alike = alike_back (picked_alike k) }

module _ (s : Start) (ok : IsProper s) where
  -- of two events of which the second is active without the first, the second is active beside it
  active_beside : {e f : Event} {rest : List Event} → IsFired s (e ∷ rest) → IsActive s rest f → (e ≡ f → ⊥) → IsActive s (e ∷ rest) f
  active_beside {e} {f} {rest} g a n = elim (there_or_active s ok f g (includes_more e (includes_self rest)) a) [ inl i ↦ absurd (apart (first_or_in (there_too i).1)) | inr h ↦ h ]
    where
      there_too : Includes (e ∷ rest) (f ∷ rest) → IsIn f (e ∷ rest)
      there_too i = in_alike (_, pick_behind i.others here) i.alike

      apart : (f ≡ e) ⊎ IsIn f rest → ⊥
      apart (inl h) = n (sym h)
      apart (inr i) = not_yet s a i

  -- the letters behind two that change places are accepted then, too, and leave the same
  pub swap_runs : {es gs : List Event} {ms : List Letter} (x y : Letter) → IsFired s es → AreConcurrent s (event_of x) (event_of y) → Runs s es (x ∷ y ∷ ms) gs → (fs : List Event) × Runs s es (y ∷ x ∷ ms) fs × Alike gs fs
  swap_runs {es} (Fire e) (Fire f) g c (fires a (fires b r)) =
      let now : IsFired s (f ∷ e ∷ es) = fired (fired g a) b in
      let turned : IsFired s (e ∷ f ∷ es) = fired_swap s ok e f es now (c.no_cause (f ∷ e ∷ es) (fired_is_sound s ok now) (_, there here) (_, here)).1 in
      let q = runs-alike s r (more (there here) (more here (alike_self es))) in
      (q.0, fires (last_active (earlier turned)) (fires (last_active turned) q.1), q.2)
  swap_runs (Fire e) (Undo f) g c (fires a (undoes here n r)) = absurd (c.different refl)
  swap_runs {gs = gs} (Fire e) (Undo f) g c (fires a (undoes (there k) n r)) =
      (gs, undoes k (free_earlier s n) (fires (last_active (earlier (fired_last s ok (fired g a) (there k) n))) r), alike_self gs)
  swap_runs {es} {gs} (Undo e) (Fire f) g c (undoes {rest = rest} k n (fires b r)) =
      let beside : IsActive s es f = active-alike s (alike_back (picked_alike k)) (active_beside (fired_last s ok g k n) b c.different) in
      (gs, fires beside (undoes (there k) (free beside) r), alike_self gs)
    where
      free : IsActive s es f → HasNoDependent s (f ∷ es) e
      free beside x i q = go (first_or_in i.1)
        where
          go : (x ≡ f) ⊎ IsIn x es → ⊥
          go (inl h) = (c.no_cause (f ∷ es) (fired_is_sound s ok (fired g beside)) (_, there k) (_, here)).1 (subst (λ y. IsCause s (f ∷ es) y e) h q)
          go (inr j) = n x j (cause_stays s ok (fired_is_sound s ok (fired g beside)).apart (includes_more f (includes_self es)) (fired_is_sound s ok g) j q)
  swap_runs {es} {gs} (Undo e) (Undo f) g c (undoes {rest = rest} k n (undoes {rest = left} k' n' r)) =
      let p = picks_swap k k' in
      (gs, undoes p.first free (undoes p.second (λ x i q. n x (in_rest p.first i.1) (cause_included s (includes_rest p.first) q)) r), alike_self gs)
    where
      free : HasNoDependent s es f
      free x i q = go (first_or_in (in_alike i (picked_alike k)).1)
        where
          go : (x ≡ e) ⊎ IsIn x rest → ⊥
          go (inl h) = (c.no_cause es (fired_is_sound s ok g) (_, k) (in_rest k k')).0 (subst (λ y. IsCause s es y f) h q)
          go (inr j) = n' x j (cause_stays s ok (fired_is_sound s ok g).apart (includes_rest k) (fired_is_sound s ok (earlier (fired_last s ok g k n))) j q)
