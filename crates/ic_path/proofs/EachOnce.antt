-- Lists that have the same elements, each once, are the same up to order.
use Rattle.std.proofs.Common.{◌≡◌, List, [], ◌∷◌, length, ◌⊎◌, inl, inr, subst}
use Rattle.ic_path.specs.Orders.{Pick, here, Alike, none, more, IsIn, IsOnce}
use Rattle.ic_path.specs.Rings.{HasEachOnce}
use Rattle.ic_path.proofs.Picks.{picks_swap, two_picks, none_in, in_first, in_more, in_picked, in_others}
use Rattle.ic_path.proofs.Alikes.{alike-length}

-- A list with nothing in it is empty.
empty_alike : {X : Type 0} (ys : List X) → ((y : X) → IsIn y ys → IsIn y []) → Alike [] ys
empty_alike [] g = none
empty_alike (y ∷ ys) g = absurd (none_in (g y (in_first y ys)))

-- What is left of such a list is one, too.
pub once_rest : {X : Type 0} {x : X} {xs rest : List X} → IsOnce xs → Pick x xs rest → IsOnce rest
once_rest once k y r j i = let c = picks_swap k j in once y c.ys c.first (in_picked c.second i)

-- One more in front that is not in it yet.
pub once_cons : {X : Type 0} {x : X} {xs : List X} → (IsIn x xs → ⊥) → IsOnce xs → IsOnce (x ∷ xs)
once_cons {X} {x} {xs} fresh once z rest k i = by (two_picks k here) i
  where
    behind : {r : List X} → Pick z xs r → (z ≡ x) ⊎ IsIn z r → ⊥
    behind {r} j (inl e) = fresh (subst (λ w. IsIn w xs) e (r, j))
    behind j (inr c) = once z _ j c

    by : {rest : List X} → ((z ≡ x) × (rest ≡ xs)) ⊎ ((r : List X) × Pick x rest r × Pick z xs r) → IsIn z rest → ⊥
    by (inl e) c = fresh (subst (λ w. IsIn w xs) e.0 (subst (λ ws. IsIn z ws) e.1 c))
    by (inr r) c = behind r.2 (in_others r.1 c)

-- Two lists with the same elements, each once, are alike.
pub once_alike : {X : Type 0} (xs ys : List X) → IsOnce xs → IsOnce ys → ((x : X) → IsIn x xs → IsIn x ys) → ((y : X) → IsIn y ys → IsIn y xs) → Alike xs ys
once_alike [] ys o o' f g = empty_alike ys g
once_alike {X} (x ∷ xs) ys o o' f g = by (f x (in_first x xs))
    (λ rest k. once_alike xs rest (once_rest o here) (once_rest o' k)
    (λ z j. first z j (in_others k (f z (in_more x j))))
    (λ z j. second k z j (in_others here (g z (in_picked k j)))))
  where
    first : {rest : List X} (z : X) → IsIn z xs → (z ≡ x) ⊎ IsIn z rest → IsIn z rest
    first z j (inl e) = absurd (o x xs here (subst (λ w. IsIn w xs) e j))
    first z j (inr i) = i

    second : {rest : List X} → Pick x ys rest → (z : X) → IsIn z rest → (z ≡ x) ⊎ IsIn z xs → IsIn z xs
    second {rest} k z j (inl e) = absurd (o' x rest k (subst (λ w. IsIn w rest) e j))
    second k z j (inr i) = i

    by : IsIn x ys → ((rest : List X) → Pick x ys rest → Alike xs rest) → Alike (x ∷ xs) ys
    by i h = more i.1 (h i.0 i.1)

-- Two lists that have each of the same things once are alike.
pub each_once_alike : {X : Type 0} {P : X → Type 0} (xs ys : List X) → HasEachOnce P xs → HasEachOnce P ys → Alike xs ys
each_once_alike xs ys a b = once_alike xs ys a.once b.once (λ x i. b.each x (a.only x i)) (λ y i. a.each y (b.only y i))

-- Such lists are equally long.
pub each_once_length : {X : Type 0} {P : X → Type 0} (xs ys : List X) → HasEachOnce P xs → HasEachOnce P ys → length xs ≡ length ys
each_once_length xs ys a b = alike-length (each_once_alike xs ys a b)
