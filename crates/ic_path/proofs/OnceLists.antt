-- Lists without repeats.
use Rattle.std.proofs.Common.{◌⊎◌, inl, inr, ◌≡◌, ◌<◌, ℕ, zero, suc, arith, length, get_or, take, drop, List, [], ◌∷◌, ◌++◌, ◌≡◌, map, ◌⊎◌, subst}
use Rattle.ic_path.specs.Orders.{Pick, here, there, Alike, IsIn, none, more, IsOnce}
use Rattle.ic_path.specs.Rings.{HasEachOnce}
use Rattle.ic_path.proofs.Picks.{pick_before, none_in, in_more, in_first, length-pick, in_others}
use Rattle.ic_path.proofs.Alikes.{alike_back, alike_pick, alike-in}
use Rattle.ic_path.proofs.EachOnce.{once_cons, once_rest}
use Rattle.ic_path.proofs.InLists.{map_cases}

-- a list alike to one without repeats has none
pub once-alike : {X : Type 0} {xs ys : List X} → Alike xs ys → IsOnce xs → IsOnce ys
once-alike a once y rest k i = let p = alike_pick (alike_back a) k in once y p.0 p.1 (alike-in p.2 i)

-- the same things, each once, said in other words
pub each_once_so : {X : Type 0} {P Q : X → Type 0} {xs : List X} → ((x : X) → P x → Q x) → ((x : X) → Q x → P x) → HasEachOnce P xs → HasEachOnce Q xs
each_once_so f g h = record { each = λ x q. h.each x (g x q); only = λ x i. f x (h.only x i); once = h.once }

-- an element is taken out from its place
pub pick_at : {X : Type 0} (xs : List X) (i : ℕ) (d : X) → i < length xs → Pick (get_or xs i d) xs (take i xs ++ drop (suc i) xs)
pick_at [] i d h = absurd (omega arith)
pick_at (x ∷ xs) zero d h = here
pick_at (x ∷ xs) (suc i) d h = there (pick_at xs i d (omega arith))

-- where nothing is twice, an element is not among those before it
pub not_before : {X : Type 0} (xs : List X) (i : ℕ) (d : X) → i < length xs → IsOnce xs → IsIn (get_or xs i d) (take i xs) → ⊥
not_before xs i d h once k = once _ _ (pick_at xs i d h) (k.0 ++ drop (suc i) xs, pick_before (drop (suc i) xs) k.1)

-- and the other way round, where no two elements have one image
pub once_map : {X Y : Type 0} (f : X → Y) (xs : List X) → ((x y : X) → IsIn x xs → IsIn y xs → f x ≡ f y → x ≡ y) → IsOnce xs → IsOnce (map f xs)
once_map f [] apart once = λ y rest k i. none_in (rest, k)
once_map {X} f (x ∷ xs) apart once = once_cons fresh (once_map f xs (λ y z i j. apart y z (in_more x i) (in_more x j)) (once_rest once here))
  where
    fresh : IsIn (f x) (map f xs) → ⊥
    fresh i =
        let y = map_cases f xs i in
        once x xs here (subst (λ z. IsIn z xs) (apart y.0 x (in_more x y.1) (in_first x xs) y.2) y.1)

-- a list that has all members of another, which are there once, and is as long is alike
pub alike_by_length : {X : Type 0} (xs ys : List X) → IsOnce xs → ((x : X) → IsIn x xs → IsIn x ys) → length xs ≡ length ys → Alike xs ys
alike_by_length [] [] once all same = none
alike_by_length [] (y ∷ ys) once all same = absurd (omega (arith, same))
alike_by_length {X} (x ∷ xs) ys once all same =
    let i = all x (in_first x xs) in
    let long = length-pick i.1 in
    more i.1 (alike_by_length xs i.0 (once_rest once here) (λ z j. other z j (in_others i.1 (all z (in_more x j)))) (omega (arith, long, same)))
  where
    other : {rest : List X} (z : X) → IsIn z xs → (z ≡ x) ⊎ IsIn z rest → IsIn z rest
    other {rest} z j (inl e) = absurd (once x xs here (subst (λ w. IsIn w xs) e j))
    other z j (inr k) = k
