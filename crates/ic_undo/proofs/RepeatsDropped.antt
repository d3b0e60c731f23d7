-- Lists that are put in order, and in which each element is left once.
use Rattle.std.proofs.Common.{◌≡◌, ◌↔◌, ◌==◌, ℕ, Bool, true, List, [], sym, subst, arith}
use Rattle.std.specs.List.{dedup}
use Rattle.std.specs.List.Retain.{IsFiltered, DiffersFromLast}
use Rattle.std.specs.List.Sorted.{IsPermutation, IsSorted, IsStrictlySortedBy}
use Rattle.std.specs.Cmp.{IsEquivalence, IsTotalOrder}
use Rattle.std.specs.Ordering.{is_eq, nat_cmp}
use Rattle.std.specs.declared.cmp.Ordering.{Ordering}
use Rattle.std.proofs.lemmas.Bool.Decides.{nat_tests}
use Rattle.std.proofs.lemmas.List.Filters.{dedup_is}
use Rattle.std.proofs.lemmas.List.Kept.{Contains-dedup, Contains-from_dedup, IsStrictlySortedBy-dedup}
use Rattle.std.proofs.lemmas.List.Sorted.{IsPermutation-sym, Contains-permutation}
use Rattle.ic_name.specs.Spots.{same_event}
use Rattle.ic_name.specs.declared.ids.EventId.{EventId}
use Rattle.ic_path.specs.Orders.{IsIn, IsOnce}
use Rattle.ic_path.proofs.Picks.{in-contains, contains-in}
use Rattle.ic_name.specs.EventOrders.{event_cmp}
use Rattle.ic_name.proofs.EventOrder.{event_at}
use Rattle.ic_path.proofs.StrictOrders.{strict_once}

module _ {X : Type 0} {R : X → X → Ordering} {E : X → X → Bool} (total : IsTotalOrder R) (equal : IsEquivalence E) (ties : (x y : X) → E x y ≡ is_eq (R x y)) (one : (x y : X) → E x y ≡ true → x ≡ y)
    (xs sorted ys : List X) (moved : IsPermutation xs sorted) (rises : IsSorted R sorted) (left : IsFiltered (DiffersFromLast E) [] sorted ys) where
  -- what is left
  left_is : ys ≡ dedup E sorted
  left_is = dedup_is E sorted ys left

  -- the elements are the same
  pub same_elements : (x : X) → IsIn x ys ↔ IsIn x xs
  same_elements x = (
    λ i. contains-in x xs (Contains-permutation sorted xs x (IsPermutation-sym xs sorted moved) (Contains-from_dedup E sorted x (in-contains (subst (λ zs. IsIn x zs) left_is i)))),
    λ i. subst (λ zs. IsIn x zs) (sym left_is) (contains-in x _ (Contains-dedup equal one sorted x (Contains-permutation xs sorted x moved (in-contains i)))),
  )

  -- in order, each once
  pub in_strict_order : IsStrictlySortedBy R ys
  in_strict_order = subst (IsStrictlySortedBy R) (sym left_is) (IsStrictlySortedBy-dedup total ties sorted rises)

  -- so no element is twice
  pub no_repeats : IsOnce ys
  no_repeats = strict_once total ys in_strict_order

-- the test of numbers is that of their order
pub number_ties : (m n : ℕ) → (m == n) ≡ is_eq (nat_cmp m n)
number_ties m n = grind (arith, nat_tests)

-- the test of ids is that of their order
pub id_ties : (c d : EventId) → same_event c d ≡ is_eq (event_cmp c d)
id_ties c d = sym (event_at c d)
