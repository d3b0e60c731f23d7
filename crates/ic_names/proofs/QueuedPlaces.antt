-- The places of names in a list of leads.
use Rattle.std.proofs.Common.{◌≡◌, ℕ, zero, suc, ◌<◌, ◌≤◌, List, [], ◌∷◌, ◌++◌, length, ◌⊎◌, inl, inr, refl, sym, ap, subst, arith}
use Rattle.std.proofs.lemmas.List.{map-append}
use Rattle.ic_path.specs.Orders.{here, Alike, IsIn, IsOnce}
use Rattle.ic_path.proofs.Picks.{none_in, in_first, in_more, in-cons_cases, in_picked, length-pick}
use Rattle.ic_path.proofs.Alikes.{append-alike-comm, alike_pick, alike_back, alike-in}
use Rattle.ic_path.proofs.EachOnce.{once_rest, once_cons}
use Rattle.ic_names.specs.declared.queue.Lead.{Lead}
use Rattle.ic_names.specs.Queues.{place_of, places, lead_at, StandOnce}
use Rattle.ic_names.proofs.UpTo.{same_or_not}

-- a lead of the list has the place
abbrev StandsIn : List Lead → ℕ → Type 0
StandsIn ls n = (k : ℕ) × (k < length ls) × (place_of (lead_at ls k) ≡ n)

-- a lead's place is one of the places
pub places-in : (ls : List Lead) (k : ℕ) → k < length ls → IsIn (place_of (lead_at ls k)) (places ls)
places-in [] k h = absurd (omega (arith, h))
places-in (l ∷ ls) zero h = in_first _ _
places-in (l ∷ ls) (suc k) h = in_more _ (places-in ls k (omega (arith, h)))

-- a place is that of a lead
pub in-places : {n : ℕ} (ls : List Lead) → IsIn n (places ls) → StandsIn ls n
in-places [] i = absurd (none_in i)
in-places {n} (l ∷ ls) i = by (in-cons_cases i) (in-places ls)
  where
    by : (n ≡ place_of l) ⊎ IsIn n (places ls) → (IsIn n (places ls) → StandsIn ls n) → StandsIn (l ∷ ls) n
    by (inl e) f = (0, (omega arith), sym e)
    by (inr j) f = let r = f j in let h = r.1 in (suc r.0, (omega (arith, h)), r.2)

-- where no name stands twice, no place does
pub once-places : (ls : List Lead) → StandOnce ls → IsOnce (places ls)
once-places [] once = λ x rest k i. elim k [ ]
once-places (l ∷ ls) once = once_cons fresh (once-places ls (λ i j h h' e. let same = once (suc i) (suc j) (omega arith) (omega arith) e in omega arith))
  where
    fresh : IsIn (place_of l) (places ls) → ⊥
    fresh i = let r = in-places ls i in let h = r.1 in let same = once 0 (suc r.0) (omega arith) (omega (arith, h)) (sym r.2) in absurd (omega arith)

-- and back
pub once_leads : (ls : List Lead) → IsOnce (places ls) → StandOnce ls
once_leads [] once i j h k e = absurd (omega (arith, h))
once_leads (l ∷ ls) once zero zero h k e = refl
once_leads (l ∷ ls) once zero (suc j) h k e = absurd (once (place_of l) (places ls) here (subst (λ n. IsIn n (places ls)) (sym e) (places-in ls j (omega (arith, k)))))
once_leads (l ∷ ls) once (suc i) zero h k e = absurd (once (place_of l) (places ls) here (subst (λ n. IsIn n (places ls)) e (places-in ls i (omega (arith, h)))))
once_leads (l ∷ ls) once (suc i) (suc j) h k e = ap suc (once_leads ls (once_rest once here) i j (omega (arith, h)) (omega (arith, k)) e)

-- places in another order are each once, too
pub once_moved : {ns ms : List ℕ} → Alike ns ms → IsOnce ns → IsOnce ms
once_moved alike once x rest pick twice = let r = alike_pick (alike_back alike) pick in once x r.0 r.1 (alike-in r.2 twice)

-- the places of two lists
pub places-append : (ls ms : List Lead) → places (ls ++ ms) ≡ places ls ++ places ms
places-append ls ms = map-append place_of ls ms

-- a lead at the end may as well be in front
pub last-alike : (ls : List Lead) (l : Lead) → Alike (places (ls ++ l ∷ [])) (place_of l ∷ places ls)
last-alike ls l = subst (λ ns. Alike ns (place_of l ∷ places ls)) (sym (map-append place_of ls (l ∷ []))) (append-alike-comm (places ls) (place_of l ∷ []))

-- a number is in the list or isn't
in_or_not : (x : ℕ) (xs : List ℕ) → IsIn x xs ⊎ (IsIn x xs → ⊥)
in_or_not x [] = inr none_in
in_or_not x (y ∷ ys) = by (same_or_not x y) (in_or_not x ys)
  where
    by : (x ≡ y) ⊎ (x ≡ y → ⊥) → IsIn x ys ⊎ (IsIn x ys → ⊥) → IsIn x (y ∷ ys) ⊎ (IsIn x (y ∷ ys) → ⊥)
    by (inl e) t = inl (subst (λ z. IsIn x (z ∷ ys)) e (in_first x ys))
    by (inr d) (inl i) = inl (in_more y i)
    by (inr d) (inr n) = inr (λ i. none (in-cons_cases i))
      where
        none : (x ≡ y) ⊎ IsIn x ys → ⊥
        none (inl e) = d e
        none (inr j) = n j

-- numbers below another, each once, are so many at most
pub once_below : (n : ℕ) (xs : List ℕ) → IsOnce xs → ((x : ℕ) → IsIn x xs → x < n) → length xs ≤ n
once_below zero [] once below = omega arith
once_below zero (x ∷ xs) once below = let h = below x (in_first x xs) in absurd (omega (arith, h))
once_below (suc n) xs once below = by (in_or_not n xs) (once_below n)
  where
    less : (x : ℕ) → x < suc n → (x ≡ n → ⊥) → x < n
    less x h d = other (same_or_not x n)
      where
        other : (x ≡ n) ⊎ (x ≡ n → ⊥) → x < n
        other (inl e) = absurd (d e)
        other (inr m) = omega arith

    by : IsIn n xs ⊎ (IsIn n xs → ⊥) → ((ys : List ℕ) → IsOnce ys → ((x : ℕ) → IsIn x ys → x < n) → length ys ≤ n) → length xs ≤ suc n
    by (inl i) next =
        let shorter = next i.0 (once_rest once i.1) (λ x j. less x (below x (in_picked i.1 j)) (λ e. once n i.0 i.1 (subst (λ z. IsIn z i.0) e j))) in
        let long = length-pick i.1 in
        omega arith
    by (inr d) next = let short = next xs once (λ x j. less x (below x j) (λ e. d (subst (λ z. IsIn z xs) e j))) in omega arith
