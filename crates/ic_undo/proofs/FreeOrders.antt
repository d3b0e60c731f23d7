-- Standing events in canonical order, with all that depends on them, can be undone from the last one on.
use Rattle.std.proofs.Common.{◌≡◌, ℕ, ◌<◌, List, [], ◌∷◌, ◌++◌, inl, inr, sym, ap, subst, arith, ◌∙◌}
use Rattle.std.specs.declared.cmp.Ordering.TheVariants.{Less}
use Rattle.std.specs.List.{AllByRecursion}
use Rattle.std.specs.List.Sorted.{IsStrictlySortedBy}
use Rattle.std.proofs.lemmas.Map.Keys.{sorted_head, sorted_tail}
use Rattle.ic_name.specs.Events.{Event}
use Rattle.ic_name.specs.declared.ids.EventId.{EventId}
use Rattle.ic_path.specs.Orders.{IsIn}
use Rattle.ic_path.proofs.Picks.{none_in, in_first, in-cons_cases}
use Rattle.ic_theory.specs.Causes.{IsCause, canonical_cmp}
use Rattle.ic_roster.specs.Rosters.{Stander}
use Rattle.ic_set.specs.Views.{standing, events_of}
use Rattle.ic_set.specs.Orders.{AreInOrder, IsAny}
use Rattle.ic_journal.specs.Views.{BenchView, set_of}
use Rattle.ic_journal.specs.Benches.{IsBench}
use Rattle.ic_undo.specs.Undone.{RestsOn, through}
use Rattle.ic_journal.specs.Undone.{AreFree}
use Rattle.ic_path.proofs.InLists.{in_behind, in-append_cases, in-map}
use Rattle.ic_theory.proofs.Exchanging.{not_above}

-- the first of sorted events is below each event behind it
below_each : (rank : Event → ℕ) (e : Event) (xs : List Stander) → AllByRecursion (λ f. canonical_cmp rank e f ≡ Less) (events_of xs) → (x : Stander) → IsIn x xs → canonical_cmp rank e x.event ≡ Less
below_each rank e [] h x i = absurd (none_in i)
below_each rank e (y ∷ xs) h x i = elim (in-cons_cases i) [ inl q ↦ ap (λ (z : Stander). canonical_cmp rank e z.event) q ∙ h.0 | inr j ↦ below_each rank e xs h.1 x j ]

-- what stands before an event in canonical order is below it
before : (rank : Event → ℕ) (front rest : List Stander) (x y : Stander) → IsStrictlySortedBy (canonical_cmp rank) (events_of (front ++ x ∷ rest)) → IsIn y front → canonical_cmp rank y.event x.event ≡ Less
before rank [] rest x y h i = absurd (none_in i)
before rank (z ∷ front) rest x y h i = elim (in-cons_cases i) [
  | inl q ↦ ap (λ (w : Stander). canonical_cmp rank w.event x.event) q ∙ below_each rank z.event (front ++ x ∷ rest) (sorted_head (canonical_cmp rank) z.event (events_of (front ++ x ∷ rest)) h) x (in_behind front (in_first x rest))
  | inr j ↦ before rank front rest x y (sorted_tail (canonical_cmp rank) z.event (events_of (front ++ x ∷ rest)) h) j
]

-- with each of some events its direct dependents are among them
abbrev pub AreWithDependents : BenchView → (Stander → Type 0) → Type 0
AreWithDependents v P = (x y : Stander) → IsIn x v.events → P x → IsIn y v.events → IsCause v.start (standing (set_of v)) y.event x.event → P y

-- such events, in canonical order, can be undone from the last one on
pub in_free_order : (v : BenchView) (P : Stander → Type 0) (ids : List EventId) → IsBench v → AreWithDependents v P → (a : AreInOrder (set_of v) P ids) → AreFree v a.order
in_free_order v P ids ok closed a = record {
  there = λ x i. (a.each.only x i).0;
  once = a.each.once;
  behind = λ front rest x y parts i cause. behind front rest x y parts i cause;
}
  where
    sorted : (front rest : List Stander) (x : Stander) → a.order ≡ front ++ x ∷ rest → IsStrictlySortedBy (canonical_cmp ok.set.sound.rank) (events_of (front ++ x ∷ rest))
    sorted front rest x parts = subst (λ xs. IsStrictlySortedBy (canonical_cmp ok.set.sound.rank) (events_of xs)) parts (a.canonical ok.set.sound.rank ok.set.sound.ranked)

    behind : (front rest : List Stander) (x y : Stander) → a.order ≡ front ++ x ∷ rest → IsIn y v.events → IsCause v.start (standing (set_of v)) y.event x.event → IsIn y rest
    behind front rest x y parts i cause = elim (in-append_cases front among) [
      | inl j ↦ (let low = not_above ok.set.sound.rank y.event x.event (before ok.set.sound.rank front rest x y (sorted front rest x parts) j) in absurd (omega (arith, low, above)))
      | inr j ↦ elim (in-cons_cases j) [
        | inl q ↦ (let same : ok.set.sound.rank y.event ≡ ok.set.sound.rank x.event = ap (λ (z : Stander). ok.set.sound.rank z.event) q in absurd (omega (arith, same, above)))
        | inr k ↦ k
      ]
    ]
      where
        above : ok.set.sound.rank x.event < ok.set.sound.rank y.event
        above = ok.set.sound.ranked.above y.event x.event (in-map (λ (z : Stander). z.event) i) cause

        listed : IsIn x a.order
        listed = subst (λ xs. IsIn x xs) (sym parts) (in_behind front (in_first x rest))

        among : IsIn y (front ++ x ∷ rest)
        among = let p = a.each.only x listed in subst (λ xs. IsIn y xs) parts (a.each.each y (i, closed x y p.0 p.1 i cause))

-- what rests on an event
pub resting_with_dependents : (v : BenchView) (line : ℕ) → AreWithDependents v (RestsOn v line)
resting_with_dependents v line x y i p j cause = through i p cause

-- all events
pub all_with_dependents : (v : BenchView) → AreWithDependents v IsAny
all_with_dependents v x y i p j cause = tt
