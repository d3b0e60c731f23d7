-- Neighbouring events of which neither causes the other change places; an event without dependents is taken out.
use Rattle.std.proofs.Common.{◌≡◌, List, [], ◌∷◌, ◌⊎◌, inl, inr, subst}
use Rattle.ic_name.specs.Events.{Event}
use Rattle.ic_path.specs.Orders.{Pick, here, there, Alike, more}
use Rattle.ic_path.proofs.Alikes.{alike_self, picked_alike, alike_back}
use Rattle.ic_theory.specs.Starts.{Start, IsProper}
use Rattle.ic_path.specs.Orders.{IsIn}
use Rattle.ic_theory.specs.Firings.{IsFired, AreAfterCauses}
use Rattle.ic_theory.specs.Causes.{IsCause}
use Rattle.ic_theory.specs.Sound.{IsSound}
use Rattle.ic_theory.proofs.Future.{in_alike}
use Rattle.ic_theory.proofs.Sound.{fired_sound, sound_fired}
use Rattle.ic_theory.proofs.Ranks.{sound-alike, cause_included, same_set, cause_in, first_or_in}
use Rattle.ic_theory.proofs.Closed.{closed_sound}

-- the same about an equal event
cause_at : (s : Start) (all : List Event) (f : Event) {c e : Event} → c ≡ e → IsCause s all f c → IsCause s all f e
cause_at s all f h q = subst (λ x. IsCause s all f x) h q

-- a causal order of a set is one of the set in any order
after-alike : (s : Start) {all other : List Event} → Alike all other → (es : List Event) → AreAfterCauses s all es → AreAfterCauses s other es
after-alike s a [] o = tt
after-alike s a (e ∷ es) o = (λ c k. o.0 c (cause_included s (same_set (alike_back a)) k), after-alike s a es o.1)

-- an event that isn't a cause of the next one is fired after it as well
pub fired_swap : (s : Start) → IsProper s → (e f : Event) (es : List Event) → IsFired s (f ∷ e ∷ es) → (IsCause s (f ∷ e ∷ es) f e → ⊥) → IsFired s (e ∷ f ∷ es)
fired_swap s ok e f es h n =
    let k = fired_sound s ok (f ∷ e ∷ es) h in
    let a = swapped in
    let o = k.1 in
    sound_fired s ok (e ∷ f ∷ es) (sound-alike s a k.0) (
      λ c q. let i = o.1.0 c (cause_included s (same_set (alike_back a)) q) in (_, there i.1),
      (
        λ c q. let q' = cause_included s (same_set (alike_back a)) q in only c q' (o.0 c q'),
        after-alike s a es o.1.1,
      ),
    )
  where
    swapped : Alike (f ∷ e ∷ es) (e ∷ f ∷ es)
    swapped = more (there here) (more here (alike_self es))

    only : (c : Event) → IsCause s (f ∷ e ∷ es) f c → IsIn c (e ∷ es) → IsIn c es
    only c q i = go (first_or_in i.1)
      where
        go : (c ≡ e) ⊎ IsIn c es → IsIn c es
        go (inl j) = absurd (n (cause_at s _ f j q))
        go (inr j) = j

-- a sound set without an event that causes none of it is sound
pub undo_sound : (s : Start) → IsProper s → {e : Event} {es rest : List Event} → IsSound s es → Pick e es rest → ((f : Event) → IsIn f es → IsCause s es f e → ⊥) → IsSound s rest
undo_sound s ok {e} {es} {rest} h k n =
    closed_sound s ok es rest h (record { others = e ∷ []; alike = alike_back (picked_alike k) })
    (λ f c i q. let j = in_alike (cause_in s q) (picked_alike k) in go f c i q (first_or_in j.1))
  where
    up : (f : Event) → IsIn f rest → IsIn f es
    up f i = in_alike (_, there i.1) (alike_back (picked_alike k))

    go : (f c : Event) → IsIn f rest → IsCause s es f c → (c ≡ e) ⊎ IsIn c rest → IsIn c rest
    go f c i q (inl j) = absurd (n f (up f i) (cause_at s es f j q))
    go f c i q (inr j) = j
