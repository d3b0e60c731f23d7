-- Elements that are taken out of lists.
use Rattle.std.proofs.Common.{◌≡◌, suc, List, [], ◌∷◌, ◌++◌, length, map, ◌⊎◌, inl, inr, zero, refl, ap, subst, arith, Contains}
use Rattle.ic_path.specs.Orders.{Pick, here, there, IsIn}

-- Two lists, of which the second lacks one element of the first, less another one.
pub record Common {X : Type 0} (x y : X) (xs zs : List X) : Type 0 where
  pub ys : List X
  pub first : Pick x xs ys
  pub second : Pick y ys zs

-- What is picked second can be picked first.
pub picks_swap : {X : Type 0} {x y : X} {xs ys zs : List X} → Pick y xs ys → Pick x ys zs → Common x y xs zs
picks_swap here k = record { ys = _; first = there k; second = here }
picks_swap (there k) here = record { ys = _; first = here; second = k }
picks_swap (there {y = w} k) (there k') = let c = picks_swap k k' in record { ys = w ∷ c.ys; first = there c.first; second = there c.second }

-- Two picks out of one list are the same pick, or each can be made after the other.
pub two_picks : {X : Type 0} {x y : X} {all xs ys : List X} → Pick x all xs → Pick y all ys
    → ((x ≡ y) × (xs ≡ ys)) ⊎ ((rest : List X) × Pick y xs rest × Pick x ys rest)
two_picks here here = inl (refl, refl)
two_picks here (there k) = inr (_, k, here)
two_picks (there k) here = inr (_, here, k)
two_picks {X} {x} {y} (there {y = z} {rest = xs} k) (there {rest = ys} k') = again (two_picks k k')
  where
    again : ((x ≡ y) × (xs ≡ ys)) ⊎ ((rest : List X) × Pick y xs rest × Pick x ys rest) → ((x ≡ y) × ((z ∷ xs) ≡ (z ∷ ys))) ⊎ ((rest : List X) × Pick y (z ∷ xs) rest × Pick x (z ∷ ys) rest)
    again (inl e) = inl (e.0, ap (λ s. z ∷ s) e.1)
    again (inr r) = inr (z ∷ r.0, there r.1, there r.2)

-- A pick makes the list one shorter.
pub length-pick : {X : Type 0} {x : X} {xs ys : List X} → Pick x xs ys → length xs ≡ suc (length ys)
length-pick here = refl
length-pick (there k) = ap suc (length-pick k)

-- A pick behind other elements.
pub pick_behind : {X : Type 0} {x : X} (zs : List X) {xs rest : List X} → Pick x xs rest → Pick x (zs ++ xs) (zs ++ rest)
pick_behind [] k = k
pick_behind (z ∷ zs) k = there (pick_behind zs k)

-- A pick before other elements.
pub pick_before : {X : Type 0} {x : X} {xs rest : List X} (zs : List X) → Pick x xs rest → Pick x (xs ++ zs) (rest ++ zs)
pick_before zs here = here
pick_before zs (there k) = there (pick_before zs k)

-- A map takes picks to picks.
pub pick-map : {X Y : Type 0} (m : X → Y) {x : X} {xs rest : List X} → Pick x xs rest → Pick (m x) (map m xs) (map m rest)
pick-map m here = here
pick-map m (there k) = there (pick-map m k)

-- Nothing is in the empty list.
pub none_in : {X : Type 0} {x : X} → IsIn x [] → ⊥
none_in (rest, k) = elim k [ ]

-- The first element is in the list.
pub in_first : {X : Type 0} (x : X) (xs : List X) → IsIn x (x ∷ xs)
in_first x xs = (xs, here)

-- What is in a list is in it with one more in front.
pub in_more : {X : Type 0} {x : X} (y : X) {xs : List X} → IsIn x xs → IsIn x (y ∷ xs)
in_more y i = (y ∷ i.0, there i.1)

-- What is left over was in the list.
pub in_picked : {X : Type 0} {x y : X} {xs rest : List X} → Pick y xs rest → IsIn x rest → IsIn x xs
in_picked k i = let c = picks_swap k i.1 in (c.ys, c.first)

-- What is in a list is the one picked, or left over.
pub in_others : {X : Type 0} {x y : X} {xs rest : List X} → Pick y xs rest → IsIn x xs → (x ≡ y) ⊎ IsIn x rest
in_others {X} {x} {y} {rest = rest} k i = by (two_picks i.1 k)
  where
    by : {zs : List X} → ((x ≡ y) × (zs ≡ rest)) ⊎ ((r : List X) × Pick y zs r × Pick x rest r) → (x ≡ y) ⊎ IsIn x rest
    by (inl e) = inl e.0
    by (inr r) = inr (r.0, r.2)

-- What is in a list is its first element, or behind it.
pub in-cons_cases : {X : Type 0} {x y : X} {xs : List X} → IsIn x (y ∷ xs) → (x ≡ y) ⊎ IsIn x xs
in-cons_cases i = in_others here i

-- The first element is at a place.
pub contains-head : {X : Type 0} (x : X) (xs : List X) → Contains (x ∷ xs) x
contains-head x xs = (0, omega arith, refl)

-- What is at a place is at one with one more in front.
pub contains-cons : {X : Type 0} (x y : X) (xs : List X) → Contains xs y → Contains (x ∷ xs) y
contains-cons x y xs h = (suc h.0, (let k = h.1 in omega (arith, k)), h.2)

-- What is at a place is the first element, or at a place behind it.
pub contains-cons_cases : {X : Type 0} (x y : X) (xs : List X) → Contains (x ∷ xs) y → (x ≡ y) ⊎ Contains xs y
contains-cons_cases x y xs (zero, k, e) = inl e
contains-cons_cases x y xs (suc i, k, e) = inr (i, (omega (arith, k)), e)

-- What is picked was at a place.
pub pick-contains : {X : Type 0} {x : X} {xs rest : List X} → Pick x xs rest → Contains xs x
pick-contains here = contains-head _ _
pick-contains (there {x = x} {y = y} {xs = xs} k) = contains-cons y x xs (pick-contains k)

-- What is in a list is at a place of it.
pub in-contains : {X : Type 0} {x : X} {xs : List X} → IsIn x xs → Contains xs x
in-contains i = pick-contains i.1

-- What is at a place of a list is in it.
pub contains-in : {X : Type 0} (x : X) (xs : List X) → Contains xs x → IsIn x xs
contains-in x [] (k, h, e) = absurd (omega (arith, h))
contains-in {X} x (y ∷ xs) c = by (contains-cons_cases y x xs c) (contains-in x xs)
  where
    by : (y ≡ x) ⊎ Contains xs x → (Contains xs x → IsIn x xs) → IsIn x (y ∷ xs)
    by (inl e) f = subst (λ z. IsIn z (y ∷ xs)) e (in_first y xs)
    by (inr c) f = in_more y (f c)
