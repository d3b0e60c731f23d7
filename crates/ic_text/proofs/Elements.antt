-- What is in a list, as `IsIn` says it.
use Rattle.std.proofs.Common.{◌≡◌, ℕ, suc, List, [], ◌∷◌, ◌++◌, map, ◌⊎◌, inl, inr, sym, ap, ◌∙◌, refl, Option, Some, None}
use Rattle.std.specs.Prelude.{All, slice_get}
use Rattle.std.specs.List.{AllByRecursion, filter_map, cons_option, flat_map}
use Rattle.std.proofs.lemmas.List.Elements.{All-contains}
use Rattle.ic_theory.specs.Orders.{Pick, here, there, IsIn}
use Rattle.ic_theory.proofs.Picks.{pick_before, in_first, in_more, in-cons_cases, in-contains, none_in}
use Rattle.ic_theory.proofs.InLists.{in_behind}

-- what holds of each element holds of one that is in the list
pub all-in : {X : Type 0} (P : X → Type 0) {x : X} {xs : List X} → All P xs → IsIn x xs → P x
all-in P {x} {xs} h i = All-contains P xs x h (in-contains i)

-- what holds of each that is in a list, one by one
pub each_in : {X : Type 0} (P : X → Type 0) (xs : List X) → ((x : X) → IsIn x xs → P x) → AllByRecursion P xs
each_in P [] h = tt
each_in P (x ∷ xs) h = (h x (in_first x xs), each_in P xs (λ y i. h y (in_more x i)))

-- what is in a list is at a place
pub place_in : {X : Type 0} {x : X} {xs rest : List X} → Pick x xs rest → (k : ℕ) × (slice_get xs k ≡ Some x)
place_in here = (0, refl)
place_in (there k) = let r = place_in k in (suc r.0, r.1)

-- what is in a list is in it with others behind
pub in_before : {X : Type 0} {x : X} {xs : List X} (ys : List X) → IsIn x xs → IsIn x (xs ++ ys)
in_before ys i = (_, pick_before ys i.1)

-- what one element gives is in the whole
pub in-flat_map : {X Y : Type 0} (f : X → List Y) {x : X} {y : Y} {xs rest : List X} → Pick x xs rest → IsIn y (f x) → IsIn y (flat_map f xs)
in-flat_map f (here {xs = xs}) i = in_before (flat_map f xs) i
in-flat_map f (there {y = z} k) i = in_behind (f z) (in-flat_map f k i)

-- what a map gives of an element is in the list of what it gives
pub in-filter_map : {X Y : Type 0} (f : X → Option Y) {x : X} {y : Y} {xs rest : List X} → Pick x xs rest → f x ≡ Some y → IsIn y (filter_map f xs)
in-filter_map f {y = y} (here {xs = xs}) e = rw e (in_first y (filter_map f xs))
in-filter_map {X} {Y} f {y = y} (there {y = z} {xs = xs} k) e = go (f z) (in-filter_map f k e)
  where
    go : (o : Option Y) → IsIn y (filter_map f xs) → IsIn y (cons_option o (filter_map f xs))
    go None i = i
    go (Some w) i = in_more w i

-- what is in the list of what a map gives is given of an element
pub filter_map_cases : {X Y : Type 0} (f : X → Option Y) {y : Y} (xs : List X) → IsIn y (filter_map f xs) → (x : X) × IsIn x xs × (f x ≡ Some y)
filter_map_cases f [] i = absurd (none_in i)
filter_map_cases {X} {Y} f {y} (z ∷ zs) i = go (f z) refl i (λ j. filter_map_cases f zs j)
  where
    more : ((x : X) × IsIn x zs × (f x ≡ Some y)) → (x : X) × IsIn x (z ∷ zs) × (f x ≡ Some y)
    more r = (r.0, in_more z r.1, r.2)

    first : (w : Y) → f z ≡ Some w → (y ≡ w) ⊎ IsIn y (filter_map f zs) → (IsIn y (filter_map f zs) → (x : X) × IsIn x zs × (f x ≡ Some y)) → (x : X) × IsIn x (z ∷ zs) × (f x ≡ Some y)
    first w e (inl g) ih = (z, in_first z zs, e ∙ ap Some (sym g))
    first w e (inr j) ih = more (ih j)

    go : (o : Option Y) → f z ≡ o → IsIn y (cons_option o (filter_map f zs)) → (IsIn y (filter_map f zs) → (x : X) × IsIn x zs × (f x ≡ Some y)) → (x : X) × IsIn x (z ∷ zs) × (f x ≡ Some y)
    go None e j ih = more (ih j)
    go (Some w) e j ih = first w e (in-cons_cases j) ih

-- what is in the list of what a function gives is given of an element
pub map_cases : {X Y : Type 0} (f : X → Y) {y : Y} (xs : List X) → IsIn y (map f xs) → (x : X) × IsIn x xs × (y ≡ f x)
map_cases f [] i = absurd (none_in i)
map_cases {X} {Y} f {y} (z ∷ zs) i = go (in-cons_cases i) (λ j. map_cases f zs j)
  where
    go : (y ≡ f z) ⊎ IsIn y (map f zs) → (IsIn y (map f zs) → (x : X) × IsIn x zs × (y ≡ f x)) → (x : X) × IsIn x (z ∷ zs) × (y ≡ f x)
    go (inl e) ih = (z, in_first z zs, e)
    go (inr j) ih = let r = ih j in (r.0, in_more z r.1, r.2)
