-- What is left once the last element has taken the place of another.
use Rattle.std.proofs.Common.{◌≡◌, ℕ, zero, suc, ◌+◌, ◌-◌, ◌<◌, List, [], ◌∷◌, ◌++◌, length, length-append, length-set, get_or, set, take, ◌⊎◌, inl, inr, refl, sym, ap, ◌∙◌, subst, arith}
use Rattle.std.proofs.Math.Seq.{get_or-append_seam, take-append_seam}
use Rattle.std.proofs.lemmas.List.{set-append_left, get_or_append_left}
use Rattle.std.specs.List.{swap_remove}
use Rattle.ic_path.specs.Orders.{here, there, Alike, more}
use Rattle.ic_path.proofs.Alikes.{alike_self, alike_then, alike-cons}
use Rattle.ic_path.proofs.ListEnds.{last_first}

-- the first two may change places
swapped : {X : Type 0} (x y : X) (xs : List X) → Alike (x ∷ y ∷ xs) (y ∷ x ∷ xs)
swapped x y xs = more (there here) (alike_self (y ∷ xs))

-- a last element takes the place of another
last_placed : {X : Type 0} (xs : List X) (i : ℕ) (z d : X) → i < length xs → Alike (xs ++ z ∷ []) (get_or xs i d ∷ set xs i z)
last_placed [] i z d h = absurd (omega arith)
last_placed (x ∷ xs) zero z d h = alike-cons x (last_first z xs)
last_placed (x ∷ xs) (suc i) z d h = alike_then (alike-cons x (last_placed xs i z d (omega arith))) (swapped x (get_or xs i d) (set xs i z))

-- a list that isn't empty has a last element
last_of : {X : Type 0} (x : X) (xs : List X) → (ys : List X) × (z : X) × (x ∷ xs ≡ ys ++ z ∷ [])
last_of x [] = ([], x, refl)
last_of x (y ∷ xs) = let r = last_of y xs in (x ∷ r.0, r.1, ap (λ l. x ∷ l) r.2)

-- a place up to another is below it, or that one
below_or_at : (i n : ℕ) → i < n + 1 → (i < n) ⊎ (n ≡ i)
below_or_at i n h = grind arith

-- the last element put where it is changes nothing
set_end : {X : Type 0} (z : X) (xs : List X) → set (xs ++ z ∷ []) (length xs) z ≡ xs ++ z ∷ []
set_end z [] = refl
set_end z (w ∷ xs) = ap (λ l. w ∷ l) (set_end z xs)

module _ {X : Type 0} (ys : List X) (z x : X) where
  -- what `swap_remove` leaves, of a list whose last element is known
  leaves : (i : ℕ) → swap_remove (ys ++ z ∷ []) i x ≡ take (length ys) (set (ys ++ z ∷ []) i z)
  leaves i =
      let l : length (ys ++ z ∷ []) - 1 ≡ length ys = omega (arith, length-append ys (z ∷ [])) in
      rw (l, get_or-append_seam ys z [] x) refl

  -- the same, of a list whose last element is known
  removed : (i : ℕ) → i < length (ys ++ z ∷ []) → Alike (ys ++ z ∷ []) (get_or (ys ++ z ∷ []) i x ∷ swap_remove (ys ++ z ∷ []) i x)
  removed i h = by (below_or_at i (length ys) (omega (arith, length-append ys (z ∷ []))))
    where
      by : (i < length ys) ⊎ (length ys ≡ i) → Alike (ys ++ z ∷ []) (get_or (ys ++ z ∷ []) i x ∷ swap_remove (ys ++ z ∷ []) i x)
      by (inl k) =
          let e : take (length ys) (set (ys ++ z ∷ []) i z) ≡ set ys i z = ap (take (length ys)) (set-append_left ys (z ∷ []) i z k) ∙ ap (λ n. take n (set ys i z ++ z ∷ [])) (sym (length-set ys i z)) ∙ take-append_seam (set ys i z) (z ∷ []) in
          rw (leaves i, e, get_or_append_left ys (z ∷ []) x i k) (last_placed ys i z x k)
      by (inr e) =
          let f : set (ys ++ z ∷ []) (length ys) z ≡ ys ++ z ∷ [] = set_end z ys in
          let g : take (length ys) (set (ys ++ z ∷ []) (length ys) z) ≡ ys = ap (take (length ys)) f ∙ take-append_seam ys (z ∷ []) in
          subst (λ j. Alike (ys ++ z ∷ []) (get_or (ys ++ z ∷ []) j x ∷ swap_remove (ys ++ z ∷ []) j x)) e (rw (leaves (length ys), g, get_or-append_seam ys z [] x) (last_first z ys))

-- the element that is taken out, before those that are left, is the list up to order
pub swap_removed : {X : Type 0} (xs : List X) (i : ℕ) (x : X) → i < length xs → Alike xs (get_or xs i x ∷ swap_remove xs i x)
swap_removed [] i x h = absurd (omega arith)
swap_removed {X} (y ∷ xs) i x h =
    let r = last_of y xs in
    let P : List X → Type 0 = λ l. i < length l → Alike l (get_or l i x ∷ swap_remove l i x) in
    subst P (sym r.2) (removed r.0 r.1 x i) h
