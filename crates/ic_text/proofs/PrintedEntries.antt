-- Pairs of texts that are entered one by one into a list, by their first texts.
use Rattle.std.proofs.Common.{◌≡◌, ℕ, ◌+◌, ◌≤◌, List, [], ◌∷◌, ◌⊎◌, inl, inr, refl, sym, ap, subst, ◌∙◌, arith}
use Rattle.std.specs.declared.cmp.Ordering.{Ordering}
use Rattle.std.specs.declared.cmp.Ordering.TheVariants.{Less, Equal, Greater}
use Rattle.std.specs.Ordering.{nat_cmp, match_ordering, is_eq}
use Rattle.std.specs.Cmp.Lexicographic.{slice_cmp}
use Rattle.std.specs.BTreeMap.{insert_entry}
use Rattle.std.specs.List.{fold}
use Rattle.std.proofs.lemmas.Map.Text.{is_eq-slice_cmp}
use Rattle.std.proofs.lemmas.Slice.Eq.{bytes_eq-Decides}
use Rattle.ic_theory.specs.Orders.{Pick, here, there, IsIn}
use Rattle.ic_theory.proofs.Picks.{in_first, in_more, in-cons_cases}

-- two texts
abbrev pub Texts : Type 0
Texts = List ℕ × List ℕ

-- the list with one pair more
abbrev pub enter : List Texts → Texts → List Texts
enter es x = insert_entry (slice_cmp nat_cmp) es x.0 x.1

-- texts that are tied are one text
pub text_tied : (x y : List ℕ) → slice_cmp nat_cmp x y ≡ Equal → x ≡ y
text_tied x y h = (bytes_eq-Decides x y).0 (sym (is_eq-slice_cmp x y) ∙ ap is_eq h)

-- a pair with an equal first text takes the first one's place
tied_pair : (e x : Texts) → slice_cmp nat_cmp x.0 e.0 ≡ Equal → ◌≡◌ {A = Texts} (e.0, x.1) x
tied_pair e x h = λ u. (sym (text_tied x.0 e.0 h) u, x.1)

-- the pair that is entered is there
enter_has : (es : List Texts) (x : Texts) → IsIn x (enter es x)
enter_has [] x = in_first x []
enter_has (e ∷ es) x = go (slice_cmp nat_cmp x.0 e.0) refl (enter_has es x)
  where
    go : (o : Ordering) → slice_cmp nat_cmp x.0 e.0 ≡ o → IsIn x (enter es x) → IsIn x (match_ordering o (x ∷ e ∷ es) ((e.0, x.1) ∷ es) (e ∷ enter es x))
    go Less h ih = in_first x (e ∷ es)
    go Equal h ih = subst (λ (z : Texts). IsIn x (z ∷ es)) (sym (tied_pair e x h)) (in_first x es)
    go Greater h ih = in_more e ih

-- the others stay, where no other one has its first text
enter_keeps : (es : List Texts) (x : Texts) {y : Texts} → (y.0 ≡ x.0 → y ≡ x) → IsIn y es → IsIn y (enter es x)
enter_keeps [] x one i = in_more x i
enter_keeps (e ∷ es) x {y} one i = go (slice_cmp nat_cmp x.0 e.0) refl (in-cons_cases i) (λ j. enter_keeps es x one j)
  where
    go : (o : Ordering) → slice_cmp nat_cmp x.0 e.0 ≡ o → (y ≡ e) ⊎ IsIn y es → (IsIn y es → IsIn y (enter es x)) → IsIn y (match_ordering o (x ∷ e ∷ es) ((e.0, x.1) ∷ es) (e ∷ enter es x))
    go Less h c ih = in_more x i
    go Equal h (inl f) ih =
        let same : y ≡ x = one (ap (λ (z : Texts). z.0) f ∙ sym (text_tied x.0 e.0 h)) in
        subst (λ (z : Texts). IsIn y (z ∷ es)) (same ∙ sym (tied_pair e x h)) (in_first y es)
    go Equal h (inr j) ih = in_more (e.0, x.1) j
    go Greater h (inl f) ih = subst (λ z. IsIn z (e ∷ enter es x)) (sym f) (in_first e (enter es x))
    go Greater h (inr j) ih = in_more e (ih j)

-- nothing else comes in
enter_only : (es : List Texts) (x : Texts) {y : Texts} → IsIn y (enter es x) → (y ≡ x) ⊎ IsIn y es
enter_only [] x i = in-cons_cases i
enter_only (e ∷ es) x {y} i = go (slice_cmp nat_cmp x.0 e.0) refl i (λ j. enter_only es x j)
  where
    behind : (y ≡ x) ⊎ IsIn y es → (y ≡ x) ⊎ IsIn y (e ∷ es)
    behind (inl f) = inl f
    behind (inr j) = inr (in_more e j)

    first : (y ≡ (e.0, x.1)) ⊎ IsIn y es → slice_cmp nat_cmp x.0 e.0 ≡ Equal → (y ≡ x) ⊎ IsIn y (e ∷ es)
    first (inl f) h = inl (f ∙ tied_pair e x h)
    first (inr j) h = inr (in_more e j)

    later : (y ≡ e) ⊎ IsIn y (enter es x) → (IsIn y (enter es x) → (y ≡ x) ⊎ IsIn y es) → (y ≡ x) ⊎ IsIn y (e ∷ es)
    later (inl f) ih = inr (subst (λ z. IsIn z (e ∷ es)) (sym f) (in_first e es))
    later (inr j) ih = behind (ih j)

    go : (o : Ordering) → slice_cmp nat_cmp x.0 e.0 ≡ o → IsIn y (match_ordering o (x ∷ e ∷ es) ((e.0, x.1) ∷ es) (e ∷ enter es x)) → (IsIn y (enter es x) → (y ≡ x) ⊎ IsIn y es) → (y ≡ x) ⊎ IsIn y (e ∷ es)
    go Less h j ih = in-cons_cases j
    go Equal h j ih = first (in-cons_cases j) h
    go Greater h j ih = later (in-cons_cases j) ih

-- ---- all pairs

-- a pair stays as others are entered
entered_stay : (xs es : List Texts) {y : Texts} → ((x : Texts) → IsIn x xs → y.0 ≡ x.0 → y ≡ x) → IsIn y es → IsIn y (fold enter es xs)
entered_stay [] es one i = i
entered_stay (x ∷ xs) es one i = entered_stay xs (enter es x) (λ z j. one z (in_more x j)) (enter_keeps es x (one x (in_first x xs)) i)

-- each pair that is entered is there in the end
pub entered_there : {xs rest : List Texts} {y : Texts} (es : List Texts) → ((x : Texts) → IsIn x xs → y.0 ≡ x.0 → y ≡ x) → Pick y xs rest → IsIn y (fold enter es xs)
entered_there {y = y} es one (here {xs = xs}) = entered_stay xs (enter es y) (λ z j. one z (in_more y j)) (enter_has es y)
entered_there es one (there {y = z} k) = entered_there (enter es z) (λ x j. one x (in_more z j)) k

-- and nothing else
pub entered_only : (xs es : List Texts) {y : Texts} → IsIn y (fold enter es xs) → IsIn y xs ⊎ IsIn y es
entered_only [] es i = inr i
entered_only (x ∷ xs) es {y} i = go (entered_only xs (enter es x) i)
  where
    behind : (y ≡ x) ⊎ IsIn y es → IsIn y (x ∷ xs) ⊎ IsIn y es
    behind (inl f) = inl (subst (λ z. IsIn z (x ∷ xs)) (sym f) (in_first x xs))
    behind (inr j) = inr j

    go : IsIn y xs ⊎ IsIn y (enter es x) → IsIn y (x ∷ xs) ⊎ IsIn y es
    go (inl j) = inl (in_more x j)
    go (inr j) = behind (enter_only es x j)

-- ---- sums

-- a sum over the pairs
abbrev pub total : (Texts → ℕ) → List Texts → ℕ
total f [] = 0
total f (x ∷ xs) = f x + total f xs

-- one pair more adds no more than its own
enter_most : (f : Texts → ℕ) (es : List Texts) (x : Texts) → total f (enter es x) ≤ f x + total f es
enter_most f [] x = omega arith
enter_most f (e ∷ es) x = go (slice_cmp nat_cmp x.0 e.0) refl (enter_most f es x)
  where
    go : (o : Ordering) → slice_cmp nat_cmp x.0 e.0 ≡ o → total f (enter es x) ≤ f x + total f es → total f (match_ordering o (x ∷ e ∷ es) ((e.0, x.1) ∷ es) (e ∷ enter es x)) ≤ f x + (f e + total f es)
    go Less h ih = omega arith
    go Equal h ih = let s : f (e.0, x.1) ≡ f x = ap f (tied_pair e x h) in omega arith
    go Greater h ih = omega (arith, ih)

-- what is entered adds no more than its own
pub entered_most : (f : Texts → ℕ) (xs es : List Texts) → total f (fold enter es xs) ≤ total f xs + total f es
entered_most f [] es = omega arith
entered_most f (x ∷ xs) es = omega (arith, entered_most f xs (enter es x), enter_most f es x)
