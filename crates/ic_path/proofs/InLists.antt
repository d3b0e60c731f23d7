-- The elements of lists that are mapped, filtered or joined.
use Rattle.std.proofs.lemmas.List.Elements.{All-weaker, All-contains_itself}
use Rattle.std.proofs.Common.{◌≡◌, Bool, true, false, not, cond, List, [], ◌∷◌, ◌++◌, map, filter, ◌⊎◌, inl, inr, refl, sym, ap, subst, ◌∙◌, All}
use Rattle.ic_path.specs.Orders.{Pick, here, there, Alike, none, more, IsIn}
use Rattle.ic_path.proofs.Picks.{none_in, in_first, in_more, in_picked, in-cons_cases, pick-map, pick_behind, contains-in}
use Rattle.ic_path.proofs.Alikes.{alike_back, alike_then, alike_past, alike-in}

-- a map takes elements to elements
pub in-map : {X Y : Type 0} (f : X → Y) {x : X} {xs : List X} → IsIn x xs → IsIn (f x) (map f xs)
in-map f i = (_, pick-map f i.1)

-- and what is in its list comes from an element
pub map_cases : {X Y : Type 0} (f : X → Y) (xs : List X) {y : Y} → IsIn y (map f xs) → (x : X) × IsIn x xs × (f x ≡ y)
map_cases f [] i = absurd (none_in i)
map_cases f (x ∷ xs) i = elim (in-cons_cases i) [ inl e ↦ (x, in_first x xs, sym e) | inr j ↦ (let r = map_cases f xs j in (r.0, in_more x r.1, r.2)) ]

-- what is in a filtered list is in the list, and passes
pub filter_cases : {X : Type 0} (p : X → Bool) (xs : List X) {x : X} → IsIn x (filter p xs) → IsIn x xs × (p x ≡ true)
filter_cases p [] i = absurd (none_in i)
filter_cases {X} p (y ∷ xs) {x} i = by (p y) refl i (λ j. filter_cases p xs j)
  where
    by : (b : Bool) → p y ≡ b → IsIn x (cond b (y ∷ filter p xs) (filter p xs)) → (IsIn x (filter p xs) → IsIn x xs × (p x ≡ true)) → IsIn x (y ∷ xs) × (p x ≡ true)
    by true e j f = elim (in-cons_cases j) [ inl q ↦ (subst (λ z. IsIn z (y ∷ xs)) (sym q) (in_first y xs), ap p q ∙ e) | inr r ↦ (in_more y (f r).0, (f r).1) ]
    by false e j f = (in_more y (f j).0, (f j).1)

-- what passes and what fails are together the whole list
pub partition : {X : Type 0} (p : X → Bool) (xs : List X) → Alike (filter p xs ++ filter (λ x. not (p x)) xs) xs
partition p [] = none
partition {X} p (x ∷ xs) = by (p x) (partition p xs)
  where
    by : (b : Bool) → Alike (filter p xs ++ filter (λ y. not (p y)) xs) xs
        → Alike (cond b (x ∷ filter p xs) (filter p xs) ++ cond (not b) (x ∷ filter (λ y. not (p y)) xs) (filter (λ y. not (p y)) xs)) (x ∷ xs)
    by true a = more here a
    by false a = alike_then (alike_past (filter p xs) (x ∷ []) (filter (λ y. not (p y)) xs)) (more here a)

-- an element of a joined list is taken out of the first part, or is in the second
part_of : {X : Type 0} {x : X} (xs ys : List X) {rest : List X} → Pick x (xs ++ ys) rest → ((left : List X) × Pick x xs left × (rest ≡ left ++ ys)) ⊎ IsIn x ys
part_of [] ys k = inr (_, k)
part_of (y ∷ xs) ys here = inl (xs, here, refl)
part_of (y ∷ xs) ys (there k) = elim (part_of xs ys k) [ inl c ↦ inl (y ∷ c.0, there c.1, ap (λ zs. y ∷ zs) c.2) | inr i ↦ inr i ]

-- where one property tells the first parts of two alike lists from the second, the second parts are alike
pub other_parts : {X : Type 0} (P : X → Type 0) (xs ys zs ws : List X) → ((x : X) → IsIn x xs → P x) → ((x : X) → IsIn x ys → P x → ⊥)
    → ((x : X) → IsIn x zs → P x) → ((x : X) → IsIn x ws → P x → ⊥) → Alike (xs ++ ys) (zs ++ ws) → Alike ys ws
other_parts P [] ys [] ws f g h i a = a
other_parts P [] ys (z ∷ zs) ws f g h i a = absurd (g z (alike-in (alike_back a) (in_first z (zs ++ ws))) (h z (in_first z zs)))
other_parts {X} P (x ∷ xs) ys zs ws f g h i (more k a) = elim (part_of zs ws k) [
  | inl c ↦ other_parts P xs ys c.0 ws (λ y j. f y (in_more x j)) g (λ y j. h y (in_picked c.1 j)) i (subst (λ us. Alike (xs ++ ys) us) c.2 a)
  | inr j ↦ absurd (i x j (f x (in_first x xs)))
]

-- a member of a list stands in a longer one
pub in_behind : {X : Type 0} {x : X} (ys : List X) {xs : List X} → IsIn x xs → IsIn x (ys ++ xs)
in_behind ys i = (ys ++ i.0, pick_behind ys i.1)

-- a member of two lists is one of the first or of the second
pub in-append_cases : {X : Type 0} {x : X} (xs : List X) {ys : List X} → IsIn x (xs ++ ys) → IsIn x xs ⊎ IsIn x ys
in-append_cases [] i = inr i
in-append_cases (y ∷ xs) i = elim (in-cons_cases i) [ inl e ↦ inl (rw e (in_first y xs)) | inr j ↦ elim (in-append_cases xs j) [ inl k ↦ inl (in_more y k) | inr k ↦ inr k ] ]

-- one of each element
pub map_agrees : {X Y : Type 0} (f g : X → Y) (xs : List X) → ((x : X) → IsIn x xs → f x ≡ g x) → map f xs ≡ map g xs
map_agrees f g [] h = refl
map_agrees f g (x ∷ xs) h = λ u. h x (in_first x xs) u ∷ map_agrees f g xs (λ y i. h y (in_more x i)) u

-- what holds of each element of a list holds of all
pub all_of_each : {X : Type 0} (P : X → Type 0) (xs : List X) → ((x : X) → IsIn x xs → P x) → All P xs
all_of_each P xs each = All-weaker _ P (λ x i. each x (contains-in x xs i)) xs (All-contains_itself xs)
