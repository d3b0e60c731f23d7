-- Lists that are the same up to order.
use Rattle.std.proofs.Common.{◌≡◌, suc, Bool, true, false, cond, List, [], ◌∷◌, ◌++◌, length, map, filter, ◌⊎◌, inl, inr, refl, sym, ap, subst, ◌∙◌, append-nil, IsPermutation}
use Rattle.std.proofs.lemmas.List.Sorted.{IsPermutation-refl, IsPermutation-cons, IsPermutation-trans, IsPermutation-middle}
use Rattle.ic_path.specs.Orders.{Pick, here, there, Alike, none, more, IsIn}
use Rattle.ic_path.proofs.Picks.{two_picks, length-pick, pick_behind, pick_before, pick-map}
pub use Rattle.ic_path.proofs.Picks.{picks_swap, Common}

-- A list is alike itself.
pub alike_self : {X : Type 0} (xs : List X) → Alike xs xs
alike_self [] = none
alike_self (x ∷ xs) = more here (alike_self xs)

-- What is picked from one of two alike lists can be picked from the other, and what is left is alike.
pub alike_pick : {X : Type 0} {x : X} {xs ys rest : List X} → Alike xs ys → Pick x xs rest → (rest' : List X) × Pick x ys rest' × Alike rest rest'
alike_pick none k = elim k [ ]
alike_pick (more k s) here = (_, k, s)
alike_pick (more k s) (there k') = let r = alike_pick s k' in let c = picks_swap k r.1 in (c.ys, c.first, more c.second r.2)

-- A list is alike to what is left of it behind what was picked.
pub picked_alike : {X : Type 0} {x : X} {xs rest : List X} → Pick x xs rest → Alike xs (x ∷ rest)
picked_alike {rest = rest} here = alike_self _
picked_alike (there {y = y} k) = more (there here) (picked_alike k)

-- One list is alike to another by a third.
pub alike_then : {X : Type 0} {xs ys zs : List X} → Alike xs ys → Alike ys zs → Alike xs zs
alike_then none a = a
alike_then (more k a) b = let r = alike_pick b k in more r.1 (alike_then a r.2)

-- The same element in front of both.
pub alike-cons : {X : Type 0} (x : X) {xs ys : List X} → Alike xs ys → Alike (x ∷ xs) (x ∷ ys)
alike-cons x a = more here a

-- And the other way round.
pub alike_back : {X : Type 0} {xs ys : List X} → Alike xs ys → Alike ys xs
alike_back none = none
alike_back (more {x = x} k a) = alike_then (picked_alike k) (alike-cons x (alike_back a))

-- What is left of one list after the same element is alike, wherever it was picked.
pub alike_rest : {X : Type 0} {x : X} {all xs ys : List X} → Pick x all xs → Pick x all ys → Alike xs ys
alike_rest {X} {x} {all} {xs} {ys} k k' = by (two_picks k k')
  where
    by : ((x ≡ x) × (xs ≡ ys)) ⊎ ((rest : List X) × Pick x xs rest × Pick x ys rest) → Alike xs ys
    by (inl e) = subst (λ zs. Alike xs zs) e.1 (alike_self xs)
    by (inr r) = alike_then (picked_alike r.1) (alike_back (picked_alike r.2))

-- The same, where the second list has the element somewhere.
cancel_pick : {X : Type 0} {x : X} {xs zs ys : List X} → Alike (x ∷ xs) zs → Pick x zs ys → Alike xs ys
cancel_pick (more k a) k' = alike_then a (alike_rest k k')

-- The same element is cancelled from both.
pub alike-cancel : {X : Type 0} {x : X} {xs ys : List X} → Alike (x ∷ xs) (x ∷ ys) → Alike xs ys
alike-cancel a = cancel_pick a here

-- The same elements in front of both.
pub alike_more : {X : Type 0} (zs : List X) {xs ys : List X} → Alike xs ys → Alike (zs ++ xs) (zs ++ ys)
alike_more [] a = a
alike_more (z ∷ zs) a = more here (alike_more zs a)

-- Two lists are joined with two that are alike to them.
pub alike-append : {X : Type 0} {xs ys zs ws : List X} → Alike xs ys → Alike zs ws → Alike (xs ++ zs) (ys ++ ws)
alike-append none b = b
alike-append {ws = ws} (more k a) b = more (pick_before ws k) (alike-append a b)

-- A list moves past another one in front of it.
pub alike_past : {X : Type 0} (xs ys zs : List X) → Alike (xs ++ (ys ++ zs)) (ys ++ (xs ++ zs))
alike_past [] ys zs = alike_self _
alike_past (x ∷ xs) ys zs = more (pick_behind ys here) (alike_past xs ys zs)

-- Two lists may be joined either way round.
pub append-alike-comm : {X : Type 0} (xs ys : List X) → Alike (xs ++ ys) (ys ++ xs)
append-alike-comm [] ys = subst (λ zs. Alike ys zs) (sym (append-nil ys)) (alike_self ys)
append-alike-comm (x ∷ xs) ys = more (pick_behind ys here) (append-alike-comm xs ys)

-- A map keeps lists alike.
pub alike-map : {X Y : Type 0} (f : X → Y) {xs ys : List X} → Alike xs ys → Alike (map f xs) (map f ys)
alike-map f none = none
alike-map f (more k a) = more (pick-map f k) (alike-map f a)

-- An element that passes is picked from what the filter gives.
pick-filter : {X : Type 0} (p : X → Bool) {x : X} {xs rest : List X} → Pick x xs rest → p x ≡ true → Pick x (filter p xs) (filter p rest)
pick-filter p here h = rw h here
pick-filter {X} p {x} (there {y = y} {xs = xs} {rest = rest} k) h = by (p y) (pick-filter p k h)
  where
    by : (b : Bool) → Pick x (filter p xs) (filter p rest) → Pick x (cond b (y ∷ filter p xs) (filter p xs)) (cond b (y ∷ filter p rest) (filter p rest))
    by true i = there i
    by false i = i

-- An element that fails makes no difference to the filter.
pick-filter_out : {X : Type 0} (p : X → Bool) {x : X} {xs rest : List X} → Pick x xs rest → p x ≡ false → filter p xs ≡ filter p rest
pick-filter_out p here h = rw h refl
pick-filter_out p (there {y = y} k) h = ap (λ s. cond (p y) (y ∷ s) s) (pick-filter_out p k h)

-- A filter keeps lists alike.
pub alike-filter : {X : Type 0} (p : X → Bool) {xs ys : List X} → Alike xs ys → Alike (filter p xs) (filter p ys)
alike-filter p none = none
alike-filter {X} p (more {x = x} {xs = xs} {ys = ys} {rest = rest} k a) = by (p x) refl (alike-filter p a)
  where
    by : (b : Bool) → p x ≡ b → Alike (filter p xs) (filter p rest) → Alike (cond b (x ∷ filter p xs) (filter p xs)) (filter p ys)
    by true h i = more (pick-filter p k h) i
    by false h i = subst (λ zs. Alike (filter p xs) zs) (sym (pick-filter_out p k h)) i

-- Alike lists have the same elements.
pub alike-in : {X : Type 0} {x : X} {xs ys : List X} → Alike xs ys → IsIn x xs → IsIn x ys
alike-in a i = let r = alike_pick a i.1 in (r.0, r.1)

-- Alike lists are equally long.
pub alike-length : {X : Type 0} {xs ys : List X} → Alike xs ys → length xs ≡ length ys
alike-length none = refl
alike-length (more k a) = ap suc (alike-length a) ∙ sym (length-pick k)

-- A picked element may go to the front.
pick-permutation : {X : Type 0} {x : X} {xs rest : List X} → Pick x xs rest → IsPermutation (x ∷ rest) xs
pick-permutation (here {x = x} {xs = xs}) = IsPermutation-refl (x ∷ xs)
pick-permutation (there {x = x} {y = y} {xs = xs} {rest = rest} k) =
    IsPermutation-trans (x ∷ y ∷ rest) (y ∷ x ∷ rest) (y ∷ xs) (IsPermutation-middle (x ∷ []) y rest) (IsPermutation-cons y (x ∷ rest) xs (pick-permutation k))

-- Alike lists are permutations of each other.
pub alike-permutation : {X : Type 0} {xs ys : List X} → Alike xs ys → IsPermutation xs ys
alike-permutation none = IsPermutation-refl []
alike-permutation (more {x = x} {xs = xs} {ys = ys} {rest = rest} k a) = IsPermutation-trans (x ∷ xs) (x ∷ rest) ys (IsPermutation-cons x xs rest (alike-permutation a)) (pick-permutation k)

-- what stands before both of two alike lists is cancelled
pub cancel_front : {X : Type 0} (zs : List X) {xs ys : List X} → Alike (zs ++ xs) (zs ++ ys) → Alike xs ys
cancel_front [] a = a
cancel_front (z ∷ zs) a = cancel_front zs (alike-cancel a)
