-- Elements at the places of a list, and in the parts of one.
use Rattle.std.proofs.Common.{◌≡◌, ℕ, zero, suc, ◌+◌, ◌<◌, List, [], ◌∷◌, ◌++◌, map, length, get_or, take, ◌⊎◌, inl, inr, refl, ap, sym, subst, arith, add-one, ◌∙◌}
use Rattle.std.specs.List.{AllByRecursion}
use Rattle.std.specs.List.Sorted.{IsStrictlySortedBy}
use Rattle.std.specs.declared.cmp.Ordering.{Ordering}
use Rattle.std.specs.declared.cmp.Ordering.TheVariants.{Less}
use Rattle.ic_path.specs.Orders.{Pick, here, IsIn, IsOnce}
use Rattle.ic_path.proofs.EachOnce.{once_cons}
use Rattle.ic_path.proofs.Picks.{none_in, in_first, in_more, in-cons_cases, pick_behind}

-- the element at a place, with those before it and those behind it
pub record At {X Y : Type 0} (f : X → Y) (xs : List X) (k : ℕ) (d : Y) : Type 0 where
  pub item : X
  pub behind : List X
  pub image : get_or (map f xs) k d ≡ f item
  pub next : take (k + 1) xs ≡ take k xs ++ item ∷ []
  pub whole : xs ≡ take k xs ++ item ∷ behind

-- there is one at each place below the length
pub at : {X Y : Type 0} (f : X → Y) (xs : List X) (k : ℕ) (d : Y) → k < length (map f xs) → At f xs k d
at f [] k d h = absurd (omega (arith, h))
at f (x ∷ xs) zero d h = record { item = x; behind = xs; image = refl; next = refl; whole = refl }
at f (x ∷ xs) (suc k) d h =
    let a = at f xs k d (omega (arith, h)) in
    record { item = a.item; behind = a.behind; image = a.image; next = rw add-one (ap (λ ys. x ∷ ys) (rw add-one at a.next)); whole = ap (λ ys. x ∷ ys) a.whole }

-- in a sorted list, what is behind an element is greater
pub sorted_behind : {X Y : Type 0} (cmp : Y → Y → Ordering) (f : X → Y) (front back : List X) (x y : X) → IsStrictlySortedBy cmp (map f (front ++ x ∷ back)) → IsIn y back → cmp (f x) (f y) ≡ Less
unfolding IsStrictlySortedBy
sorted_behind {X} {Y} cmp f [] back x y up i = below back up.0 i
  where
    below : (zs : List X) → AllByRecursion (λ w. cmp (f x) w ≡ Less) (map f zs) → IsIn y zs → cmp (f x) (f y) ≡ Less
    below [] all (rest, k) = elim k [ ]
    below (z ∷ zs) all j = elim (in-cons_cases j) [ inl e ↦ ap (λ w. cmp (f x) (f w)) e ∙ all.0 | inr r ↦ below zs all.1 r ]
sorted_behind cmp f (z ∷ front) back x y up i = sorted_behind cmp f front back x y up.1 i

-- what is in a list is before an element of it, that element, or behind it
pub parts : {X : Type 0} {y : X} (front : List X) {x : X} {back : List X} → IsIn y (front ++ x ∷ back) → IsIn y front ⊎ ((y ≡ x) ⊎ IsIn y back)
parts [] i = inr (in-cons_cases i)
parts (z ∷ front) i = elim (in-cons_cases i) [ inl e ↦ inl (front, subst (λ w. Pick w (z ∷ front) front) (sym e) here) | inr j ↦ elim (parts front j) [ inl f ↦ inl (in_more z f) | inr r ↦ inr r ] ]

-- that element is in the list
pub in_part : {X : Type 0} (front : List X) (x : X) (back : List X) → IsIn x (front ++ x ∷ back)
in_part front x back = (front ++ back, pick_behind front here)

-- what stands at a place of a list is in it
pub in_at : {X : Type 0} (xs : List X) (k : ℕ) (d x : X) → k < length xs → get_or xs k d ≡ x → IsIn x xs
in_at [] k d x h e = absurd (omega (arith, h))
in_at (y ∷ xs) zero d x h e = subst (λ z. IsIn z (y ∷ xs)) e (in_first y xs)
in_at (y ∷ xs) (suc k) d x h e = in_more y (in_at xs k d x (omega (arith, h)) e)

-- in a sorted list no element is twice, where none comes before itself
pub once_sorted : {X Y : Type 0} (cmp : Y → Y → Ordering) (f : X → Y) → ((y : Y) → cmp y y ≡ Less → ⊥) → (xs : List X) → IsStrictlySortedBy cmp (map f xs) → IsOnce xs
unfolding IsStrictlySortedBy
once_sorted cmp f apart [] up = λ x rest k i. none_in (rest, k)
once_sorted {X} cmp f apart (x ∷ xs) up = once_cons (λ i. apart (f x) (sorted_behind cmp f [] xs x x up i)) (once_sorted cmp f apart xs up.1)
