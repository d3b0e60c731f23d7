-- Lists of which a part has been seen.
use Rattle.std.proofs.Common.{◌≡◌, ℕ, ◌<◌, ◌≤◌, Bool, true, false, List, [], ◌∷◌, ◌++◌, length, get_or, ◌⊎◌, inl, inr, Some, None, refl, sym, ap, arith, subst}
use Rattle.std.specs.Prelude.{slice_get}
use Rattle.std.specs.List.{swap_remove}
use Rattle.std.proofs.lemmas.List.{map-append}
use Rattle.std.proofs.lemmas.Option.{slice_get_cases, get_or_from_slice_get}
use Rattle.ic_name.specs.Names.{Name}
use Rattle.ic_name.specs.Same.{same_name}
use Rattle.ic_name.proofs.SameFacts.{same_name_true}
use Rattle.ic_path.specs.Orders.{IsIn, Alike}
use Rattle.ic_theory.specs.Sets.{consumed_times}
use Rattle.ic_theory.proofs.Future.{consumed_in}
use Rattle.ic_theory.proofs.Sound.{consumed-append}
use Rattle.ic_path.proofs.InLists.{in-map}
use Rattle.ic_path.proofs.SwapRemoves.{swap_removed}
use Rattle.ic_set.proofs.ConsumedAgents.{consumed_other}
use Rattle.ic_trace.specs.declared.past.deep.DeepEvent.{DeepEvent}
use Rattle.ic_trace.specs.DeepEvents.{deep_events}

-- an event of the list consumed its agents
pub consumes : (ds : List DeepEvent) (x : DeepEvent) (n : Name) → IsIn x ds → (x.event.lead ≡ n) ⊎ (x.event.other ≡ n) → consumed_times n (deep_events ds) ≡ 0 → ⊥
consumes ds x n i (inl e) z =
    let some = consumed_in (in-map (λ (y : DeepEvent). y.event) i).1 in
    let same = ap (λ m. consumed_times m (deep_events ds)) e in
    omega (arith, some, same, z)
consumes ds x n i (inr e) z =
    let some = consumed_other (in-map (λ (y : DeepEvent). y.event) i).1 in
    let same = ap (λ m. consumed_times m (deep_events ds)) e in
    omega (arith, some, same, z)

-- an agent that an event more didn't consume
pub unconsumed_more : (ds : List DeepEvent) (x : DeepEvent) (n : Name) → consumed_times n (deep_events ds) ≡ 0 → (x.event.lead ≡ n → ⊥) → (x.event.other ≡ n → ⊥)
    → consumed_times n (deep_events (ds ++ x ∷ [])) ≡ 0
unconsumed_more ds x n z not_lead not_other =
    let parts = ap (consumed_times n) (map-append (λ (d : DeepEvent). d.event) ds (x ∷ [])) in
    let sum = consumed-append n (deep_events ds) (x.event ∷ []) in
    let last = by (same_name n x.event.lead) (same_name n x.event.other) refl refl in
    omega (arith, parts, sum, last, z)
  where
    by : (a b : Bool) → same_name n x.event.lead ≡ a → same_name n x.event.other ≡ b → consumed_times n (x.event ∷ []) ≡ 0
    by true b h k = absurd (not_lead (sym (same_name_true n x.event.lead h)))
    by false true h k = absurd (not_other (sym (same_name_true n x.event.other k)))
    by false false h k = rw (h, k) refl

-- and what is left without it
pub found_left : {X : Type 0} (xs : List X) (i : ℕ) (x out : X) → slice_get xs i ≡ Some x → Alike xs (x ∷ swap_remove xs i out)
found_left {X} xs i x out e = by (slice_get_cases xs i).1
  where
    by : ((y : X) × (i < length xs) × (slice_get xs i ≡ Some y) × (get_or xs i y ≡ y)) ⊎ ((length xs ≤ i) × (slice_get xs i ≡ None)) → Alike xs (x ∷ swap_remove xs i out)
    by (inl w) = subst (λ y. Alike xs (y ∷ swap_remove xs i out)) (get_or_from_slice_get xs i x out e) (swap_removed xs i out w.1)
    by (inr w) = let none = w.1 in absurd cc
