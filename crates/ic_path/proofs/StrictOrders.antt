-- Lists in strict order: those that have the same elements are one, and none has an element twice.
use Rattle.std.proofs.lemmas.List.Sorted.{sorted_far}
use Rattle.std.proofs.lemmas.List.Elements.{All-contains}
use Rattle.std.proofs.Common.{◌≡◌, List, [], ◌∷◌, ◌⊎◌, inl, inr, refl, sym, subst, Bool, IsSortedBy, ℕ, ◌≤◌, ◌<◌, length, slice_index_or, false, suc, arith}
use Rattle.std.specs.Cmp.{IsTotalOrder, IsStrictWeakOrder}
use Rattle.std.specs.List.{AllByRecursion}
use Rattle.std.specs.List.Sorted.{IsStrictlySortedBy}
use Rattle.std.specs.Ordering.{ordering_reverse}
use Rattle.std.specs.declared.cmp.Ordering.{Ordering}
use Rattle.std.specs.declared.cmp.Ordering.TheVariants.{Less, Equal, Greater}
use Rattle.ic_path.specs.Orders.{Pick, here, there, Alike, IsIn, IsOnce}
use Rattle.ic_path.proofs.Alikes.{alike_back, alike-in, alike-cancel}
use Rattle.ic_path.proofs.EachOnce.{once_cons}
use Rattle.ic_path.proofs.Picks.{none_in, in_first, in-cons_cases, in-contains}
use Rattle.ic_path.proofs.Sorts.{Ascends}

-- what holds of all holds of each
all_at : {X : Type 0} (P : X → Type 0) {x : X} {xs rest : List X} → AllByRecursion P xs → Pick x xs rest → P x
all_at P all here = all.0
all_at P all (there k) = all_at P all.1 k

-- no two are less than one another
never_both : (a b : Ordering) → a ≡ ordering_reverse b → a ≡ Less → b ≡ Less → ⊥
never_both Less Less r h k = cc
never_both Less Equal r h k = cc
never_both Less Greater r h k = cc
never_both Equal b r h k = cc
never_both Greater b r h k = cc

module _ {K : Type 0} {cmp : K → K → Ordering} (total : IsTotalOrder cmp) where
  -- two lists in strict order with the same elements are one
  pub sorted_same : (xs ys : List K) → Alike xs ys → IsStrictlySortedBy cmp xs → IsStrictlySortedBy cmp ys → xs ≡ ys
  unfolding IsStrictlySortedBy
  sorted_same [] [] a h k = refl
  sorted_same [] (y ∷ ys) a h k = absurd (none_in (alike-in (alike_back a) (in_first y ys)))
  sorted_same (x ∷ xs) [] a h k = absurd (none_in (alike-in a (in_first x xs)))
  sorted_same (x ∷ xs) (y ∷ ys) a h k = by (in-cons_cases (alike-in a (in_first x xs))) (in-cons_cases (alike-in (alike_back a) (in_first y ys))) (λ b. sorted_same xs ys b h.1 k.1)
    where
      same_first : x ≡ y → (Alike xs ys → xs ≡ ys) → x ∷ xs ≡ y ∷ ys
      same_first e rec = let r = rec (alike-cancel (subst (λ z. Alike (z ∷ xs) (y ∷ ys)) e a)) in λ i. e i ∷ r i

      by : (x ≡ y) ⊎ IsIn x ys → (y ≡ x) ⊎ IsIn y xs → (Alike xs ys → xs ≡ ys) → x ∷ xs ≡ y ∷ ys
      by (inl e) q rec = same_first e rec
      by (inr i) (inl e) rec = same_first (sym e) rec
      by (inr i) (inr j) rec = absurd (never_both _ _ (total.antisymm x y) (all_at (λ z. cmp x z ≡ Less) h.0 j.1) (all_at (λ z. cmp y z ≡ Less) k.0 i.1))

  -- a list in strict order has nothing twice
  pub strict_once : (xs : List K) → IsStrictlySortedBy cmp xs → IsOnce xs
  unfolding IsStrictlySortedBy
  strict_once [] h = λ x rest k i. elim k [ ]
  strict_once (y ∷ ys) h = once_cons (λ i. never_both _ _ (total.antisymm y y) (all_at (λ z. cmp y z ≡ Less) h.0 i.1) (all_at (λ z. cmp y z ≡ Less) h.0 i.1)) (strict_once ys h.1)

-- a list that is sorted by an order sorted_ascends
pub sorted_ascends : {X : Type 0} (less : X → X → Bool) → IsStrictWeakOrder less → (xs : List X) → IsSortedBy less xs → Ascends less xs
sorted_ascends {X} less order xs up = by xs (sorted_far less order xs up)
  where
    by : (xs : List X) → ((i j : ℕ) (d : X) → i ≤ j → j < length xs → less (slice_index_or xs j d) (slice_index_or xs i d) ≡ false) → Ascends less xs
    by [] far = tt
    by (x ∷ xs) far = (
      λ m i. All-contains (λ y. less y x ≡ false) xs m (λ k d h. far 0 (suc k) d (omega arith) (omega (arith, h))) (in-contains i),
      by xs (λ i j d le h. far (suc i) (suc j) d (omega (arith, le)) (omega (arith, h))),
    )
