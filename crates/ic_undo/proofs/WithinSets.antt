-- Sound sets of events that stand or are listed: where no listed event is active, each of them stands.
use Rattle.std.proofs.Common.{◌≡◌, List, ◌⊎◌, inl, inr, refl, ap, arith, sym, subst}
use Rattle.ic_name.specs.Events.{Event, Pair, pair}
use Rattle.ic_path.specs.Orders.{IsIn, Alike}
use Rattle.ic_path.proofs.Alikes.{alike_back, alike-in}
use Rattle.ic_path.proofs.Picks.{in_first, in_more}
use Rattle.ic_theory.specs.Active.{IsActive}
use Rattle.ic_theory.specs.Firings.{IsFired, nothing, fired}
use Rattle.ic_theory.specs.Future.{Includes}
use Rattle.ic_theory.specs.Sets.{consumed_times}
use Rattle.ic_theory.specs.Sound.{IsSound}
use Rattle.ic_theory.specs.Starts.{Start, IsProper}
use Rattle.ic_theory.proofs.Future.{there_or_active, includes_none, consumed_in, loose_agent}
use Rattle.ic_theory.proofs.Normal.{active-alike}
use Rattle.ic_theory.proofs.Ranks.{sound_order, sound_union}
use Rattle.ic_undo.specs.Absorbing.{IsLeastNever}
use Rattle.ic_undo.specs.Ready.{AreNamesOf}
use Rattle.ic_path.proofs.InLists.{in_behind}

-- an active event isn't in the set, nor is another of its name
pub active_absent : (s : Start) (es : List Event) (e f : Event) → IsActive s es e → IsIn f es → pair f ≡ pair e → ⊥
active_absent s es e f a i same =
    let lead : f.lead ≡ e.lead = ap (λ (p : Pair). p.lead) same in
    let some = consumed_in i.1 in
    let none : consumed_times f.lead es ≡ 0 = subst (λ n. consumed_times n es ≡ 0) (sym lead) (loose_agent s es e.lead a.wire.from_loose) in
    omega (arith, some, none)

-- a firing of events that are there or listed is there, where none of those listed is active
fired_within : (s : Start) → IsProper s → (names : List Pair) {all es : List Event} → IsFired s all → ((e : Event) → IsActive s all e → IsIn (pair e) names → ⊥)
    → IsFired s es → ((e : Event) → IsIn e es → IsIn e all ⊎ IsIn (pair e) names) → Includes all es
fired_within s ok names {all = all} g none nothing each = includes_none all
fired_within s ok names {all = all} g none (fired {e = e} {es = es} f a) each =
    elim (there_or_active s ok e g (fired_within s ok names g none f (λ x i. each x (in_more e i))) a) [
      | inl i ↦ i
      | inr h ↦ absurd (by h (each e (in_first e es)))
    ]
  where
    by : IsActive s all e → IsIn e all ⊎ IsIn (pair e) names → ⊥
    by h (inl i) = active_absent s all e e h i refl
    by h (inr i) = none e h i

-- so is a sound set
pub sound_within : (s : Start) → IsProper s → (names : List Pair) (all es : List Event) → IsSound s all → ((e : Event) → IsActive s all e → IsIn (pair e) names → ⊥)
    → IsSound s es → ((e : Event) → IsIn e es → IsIn e all ⊎ IsIn (pair e) names) → (e : Event) → IsIn e es → IsIn e all
sound_within s ok names all es h none k each e i = alike-in (alike_back o.1) (alike-in within.alike (in_behind within.others (alike-in p.1 i)))
  where
    o : (order : List Event) × Alike all order × IsFired s order
    o = sound_order s ok all h

    p : (order : List Event) × Alike es order × IsFired s order
    p = sound_order s ok es k

    there : (x : Event) → IsIn x all ⊎ IsIn (pair x) names → IsIn x o.0 ⊎ IsIn (pair x) names
    there x (inl j) = inl (alike-in o.1 j)
    there x (inr j) = inr j

    within : Includes o.0 p.0
    within = fired_within s ok names o.2 (λ x a j. none x (active-alike s (alike_back o.1) a) j) p.2 (λ x j. there x (each x (alike-in (alike_back p.1) j)))

-- none of the names of a sound set is never active
pub sound_named : (s : Start) → IsProper s → (stood es : List Event) (names : List Pair) (p : Pair) → IsSound s stood → IsSound s es → AreNamesOf es names → IsLeastNever s stood names p → ⊥
sound_named s ok stood es names p h k named least = least.never u.0 (record { sound = u.1; each = λ e i. within e (u.4 e i) }) at.0 (alike-in u.3.alike (in_behind u.3.others at.1)) at.2
  where
    u : (all : List Event) × IsSound s all × Includes all stood × Includes all es × ((e : Event) → IsIn e all → IsIn e stood ⊎ IsIn e es)
    u = sound_union s ok stood es h k

    at : (e : Event) × IsIn e es × (pair e ≡ p)
    at = (named p).0 least.listed

    within : (e : Event) → IsIn e stood ⊎ IsIn e es → IsIn e stood ⊎ IsIn (pair e) names
    within e (inl i) = inl i
    within e (inr i) = inr ((named (pair e)).1 (e, i, refl))
