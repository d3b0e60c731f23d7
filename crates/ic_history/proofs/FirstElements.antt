-- The first elements of lists.
use Rattle.std.proofs.Common.{◌≡◌, ℕ, zero, suc, ◌+◌, ◌<◌, List, [], ◌∷◌, ◌++◌, length, take, Some, sym, refl, ap, ◌∙◌, arith, add-one}
use Rattle.std.specs.Prelude.{slice_get}

module _ {A : Type 0} where
  -- so many elements and the next one
  take_snoc : (xs : List A) (i : ℕ) (x : A) → slice_get xs i ≡ Some x → take (suc i) xs ≡ take i xs ++ x ∷ []
  take_snoc [] i x e = absurd (cc (e))
  take_snoc (y ∷ ys) zero x e = let s : y ≡ x = cc in λ k. s k ∷ []
  take_snoc (y ∷ ys) (suc i) x e = ap (λ zs. y ∷ zs) (take_snoc ys i x e)

  -- the same by one more
  pub take_next : (xs : List A) (i : ℕ) (x : A) → slice_get xs i ≡ Some x → take (i + 1) xs ≡ take i xs ++ x ∷ []
  take_next xs i x e = ap (λ n. take n xs) (add-one i) ∙ take_snoc xs i x e

  -- two lists with the same first elements and the same next one
  take_both : (xs ys : List A) (k : ℕ) (l : A) → take k xs ≡ take k ys → slice_get xs k ≡ Some l → slice_get ys k ≡ Some l → take (k + 1) xs ≡ take (k + 1) ys
  take_both xs ys k l e x y = take_next xs k l x ∙ ap (λ zs. zs ++ l ∷ []) e ∙ sym (take_next ys k l y)

  -- the element at a place within a list
  stands_at : (xs : List A) (k : ℕ) → k < length xs → (x : A) × (slice_get xs k ≡ Some x)
  stands_at [] k h = absurd (omega arith)
  stands_at (x ∷ xs) zero h = (x, refl)
  stands_at (x ∷ xs) (suc k) h = stands_at xs k (omega arith)

  -- the same where what stands at the next place is the same
  pub take_same : (xs ys : List A) (k : ℕ) → take k xs ≡ take k ys → k < length ys → slice_get xs k ≡ slice_get ys k → take (k + 1) xs ≡ take (k + 1) ys
  take_same xs ys k e h s = let there = stands_at ys k h in take_both xs ys k there.0 e (s ∙ there.1) there.1
