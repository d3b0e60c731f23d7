-- The elements of a list that have a property, in the order of the list.
use Rattle.std.proofs.Common.{◌≡◌, List, [], ◌∷◌, ◌++◌, map, ◌⊎◌, inl, inr, sym, subst}
use Rattle.std.specs.List.{AllByRecursion}
use Rattle.std.specs.List.Sorted.{IsStrictlySortedBy}
use Rattle.std.specs.declared.cmp.Ordering.{Ordering}
use Rattle.std.specs.declared.cmp.Ordering.TheVariants.{Less}
use Rattle.ic_path.specs.Orders.{here, IsIn, IsOnce}
use Rattle.ic_path.proofs.Picks.{none_in, in_first, in_more, in-cons_cases}
use Rattle.ic_path.proofs.EachOnce.{once_rest, once_cons}

-- the second list has the elements of the first that have the property, in their order
pub data Chosen {X : Type 0} (P : X → Type 0) : List X → List X → Type 0 where
  nothing : Chosen P [] []
  taken : {x : X} {xs ks : List X} → P x → Chosen P xs ks → Chosen P (x ∷ xs) (x ∷ ks)
  left : {x : X} {xs ks : List X} → (P x → ⊥) → Chosen P xs ks → Chosen P (x ∷ xs) ks

-- one element more, which has the property
pub chosen_more : {X : Type 0} {P : X → Type 0} {xs ks : List X} (x : X) → P x → Chosen P xs ks → Chosen P (xs ++ x ∷ []) (ks ++ x ∷ [])
chosen_more x p nothing = taken p nothing
chosen_more x p (taken q c) = taken q (chosen_more x p c)
chosen_more x p (left q c) = left q (chosen_more x p c)

-- one more, which hasn't
pub chosen_same : {X : Type 0} {P : X → Type 0} {xs ks : List X} (x : X) → (P x → ⊥) → Chosen P xs ks → Chosen P (xs ++ x ∷ []) ks
chosen_same x p nothing = left p nothing
chosen_same x p (taken q c) = taken q (chosen_same x p c)
chosen_same x p (left q c) = left q (chosen_same x p c)

-- what is chosen is in the list, and has the property
pub chosen_from : {X : Type 0} {P : X → Type 0} {xs ks : List X} {x : X} → Chosen P xs ks → IsIn x ks → IsIn x xs × P x
chosen_from nothing i = absurd (none_in i)
chosen_from {X} {P} {x = x} (taken {x = y} {xs = xs} {ks = ks} q c) i = by (in-cons_cases i) (chosen_from c)
  where
    by : (x ≡ y) ⊎ IsIn x ks → (IsIn x ks → IsIn x xs × P x) → IsIn x (y ∷ xs) × P x
    by (inl e) f = (subst (λ z. IsIn z (y ∷ xs)) (sym e) (in_first y xs), subst P (sym e) q)
    by (inr j) f = (in_more y (f j).0, (f j).1)
chosen_from (left {x = y} q c) i = let r = chosen_from c i in (in_more y r.0, r.1)

-- what is in the list and has the property is chosen
pub chosen_in : {X : Type 0} {P : X → Type 0} {xs ks : List X} {x : X} → Chosen P xs ks → IsIn x xs → P x → IsIn x ks
chosen_in nothing i p = i
chosen_in (taken {x = y} {ks = ks} q c) i p = elim (in-cons_cases i) [ inl e ↦ subst (λ z. IsIn z (y ∷ ks)) (sym e) (in_first y ks) | inr j ↦ in_more y (chosen_in c j p) ]
chosen_in {P = P} (left q c) i p = elim (in-cons_cases i) [ inl e ↦ absurd (q (subst P e p)) | inr j ↦ chosen_in c j p ]

-- what is there once is chosen once
pub chosen_once : {X : Type 0} {P : X → Type 0} {xs ks : List X} → Chosen P xs ks → IsOnce xs → IsOnce ks
chosen_once nothing once = once
chosen_once (taken {x = y} {xs = xs} q c) once = once_cons (λ i. once y xs here (chosen_from c i).0) (chosen_once c (once_rest once here))
chosen_once (left q c) once = chosen_once c (once_rest once here)

-- what holds of all holds of the chosen ones
chosen_all : {X Y : Type 0} {P : X → Type 0} (Q : Y → Type 0) (f : X → Y) {xs ks : List X} → Chosen P xs ks → AllByRecursion Q (map f xs) → AllByRecursion Q (map f ks)
chosen_all Q f nothing all = all
chosen_all Q f (taken q c) all = (all.0, chosen_all Q f c all.1)
chosen_all Q f (left q c) all = chosen_all Q f c all.1

-- what is sorted stays so
pub chosen_sorted : {X Y : Type 0} {P : X → Type 0} (cmp : Y → Y → Ordering) (f : X → Y) {xs ks : List X} → Chosen P xs ks → IsStrictlySortedBy cmp (map f xs) → IsStrictlySortedBy cmp (map f ks)
unfolding IsStrictlySortedBy
chosen_sorted cmp f nothing up = up
chosen_sorted cmp f (taken {x = y} q c) up = (chosen_all (λ z. cmp (f y) z ≡ Less) f c up.0, chosen_sorted cmp f c up.1)
chosen_sorted cmp f (left q c) up = chosen_sorted cmp f c up.1
