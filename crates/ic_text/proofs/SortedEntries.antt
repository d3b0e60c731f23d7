-- Pairs of texts that are entered one by one stand in order of their first texts, and lists in order with the same pairs are one.
use Rattle.std.proofs.Common.{◌≡◌, ℕ, List, [], ◌∷◌, map, ◌⊎◌, inl, inr, refl, sym, ap, subst, ◌∙◌}
use Rattle.std.specs.declared.cmp.Ordering.{Ordering}
use Rattle.std.specs.declared.cmp.Ordering.TheVariants.{Less, Equal, Greater}
use Rattle.std.specs.Ordering.{nat_cmp, match_ordering, ordering_reverse}
use Rattle.std.specs.Cmp.Lexicographic.{slice_cmp, nat_list_cmp_total}
use Rattle.std.specs.List.{AllByRecursion, fold}
use Rattle.std.specs.List.Sorted.{IsStrictlySortedBy}
use Rattle.std.proofs.lemmas.Cmp.{tied_itself}
use Rattle.ic_theory.specs.Orders.{IsIn}
use Rattle.ic_theory.proofs.Picks.{in_first, in_more, in-cons_cases, none_in}
use Rattle.ic_text.proofs.PrintedEntries.{Texts, enter}
use Rattle.ic_text.proofs.Everywhere.{each_so}

-- in order of first texts
abbrev pub IsRising : List Texts → Type 0
IsRising es = IsStrictlySortedBy (slice_cmp nat_cmp) (map (λ (x : Texts). x.0) es)

-- a text below all is below all after one more that it is below
enter_above : (k : List ℕ) (es : List Texts) (x : Texts) → slice_cmp nat_cmp k x.0 ≡ Less → AllByRecursion (λ y. slice_cmp nat_cmp k y ≡ Less) (map (λ (z : Texts). z.0) es)
    → AllByRecursion (λ y. slice_cmp nat_cmp k y ≡ Less) (map (λ (z : Texts). z.0) (enter es x))
enter_above k [] x lt h = (lt, tt)
enter_above k (e ∷ es) x lt h = go (slice_cmp nat_cmp x.0 e.0) (enter_above k es x lt h.1)
  where
    go : (o : Ordering) → AllByRecursion (λ y. slice_cmp nat_cmp k y ≡ Less) (map (λ (z : Texts). z.0) (enter es x))
        → AllByRecursion (λ y. slice_cmp nat_cmp k y ≡ Less) (map (λ (z : Texts). z.0) (match_ordering o (x ∷ e ∷ es) ((e.0, x.1) ∷ es) (e ∷ enter es x)))
    go Less ih = (lt, h)
    go Equal ih = h
    go Greater ih = (h.0, ih)

-- one more keeps the order
enter_rising : (es : List Texts) (x : Texts) → IsRising es → IsRising (enter es x)
unfolding IsStrictlySortedBy
enter_rising [] x s = (tt, tt)
enter_rising (e ∷ es) x s = go (slice_cmp nat_cmp x.0 e.0) refl (enter_rising es x s.1)
  where
    go : (o : Ordering) → slice_cmp nat_cmp x.0 e.0 ≡ o → IsRising (enter es x) → IsRising (match_ordering o (x ∷ e ∷ es) ((e.0, x.1) ∷ es) (e ∷ enter es x))
    go Less h ih = ((h, each_so _ _ (map (λ (z : Texts). z.0) es) (λ y k. nat_list_cmp_total.trans x.0 e.0 y h k) s.0), s)
    go Equal h ih = s
    go Greater h ih = (enter_above e.0 es x (nat_list_cmp_total.antisymm e.0 x.0 ∙ ap ordering_reverse h) s.0, ih)

-- and so do more
entered_rising : (xs es : List Texts) → IsRising es → IsRising (fold enter es xs)
entered_rising [] es s = s
entered_rising (x ∷ xs) es s = entered_rising xs (enter es x) (enter_rising es x s)

-- what is entered is in order
pub entered_in_order : (xs : List Texts) → IsRising (fold enter [] xs)
unfolding IsStrictlySortedBy
entered_in_order xs = entered_rising xs [] tt

-- the pairs behind one have greater first texts
behind_greater : (e x : Texts) (es : List Texts) → IsRising (e ∷ es) → IsIn x es → slice_cmp nat_cmp e.0 x.0 ≡ Less
unfolding IsStrictlySortedBy
behind_greater e x [] s i = absurd (none_in i)
behind_greater e x (y ∷ ys) s i = go (in-cons_cases i) (λ j. behind_greater e x ys (s.0.1, s.1.1) j)
  where
    go : (x ≡ y) ⊎ IsIn x ys → (IsIn x ys → slice_cmp nat_cmp e.0 x.0 ≡ Less) → slice_cmp nat_cmp e.0 x.0 ≡ Less
    go (inl f) ih = subst (λ (z : Texts). slice_cmp nat_cmp e.0 z.0 ≡ Less) (sym f) s.0.0
    go (inr j) ih = ih j

-- those are in order, too
rest_rising : (e : Texts) (es : List Texts) → IsRising (e ∷ es) → IsRising es
unfolding IsStrictlySortedBy
rest_rising e es s = s.1

-- no text is below itself
below_itself : (x : List ℕ) → slice_cmp nat_cmp x x ≡ Less → ⊥
below_itself x h = let k : Less ≡ Equal = sym h ∙ tied_itself nat_list_cmp_total x in cc

-- lists in order with the same pairs are one
pub same_rising : (es fs : List Texts) → IsRising es → IsRising fs → ((x : Texts) → IsIn x es → IsIn x fs) → ((x : Texts) → IsIn x fs → IsIn x es) → es ≡ fs
same_rising [] [] s t f g = refl
same_rising [] (y ∷ ys) s t f g = absurd (none_in (g y (in_first y ys)))
same_rising (x ∷ xs) [] s t f g = absurd (none_in (f x (in_first x xs)))
same_rising (x ∷ xs) (y ∷ ys) s t f g =
    let first : x ≡ y = one (in-cons_cases (f x (in_first x xs))) (in-cons_cases (g y (in_first y ys))) in
    let rest = same_rising xs ys (rest_rising x xs s) (rest_rising y ys t) (λ z i. later x y ys first z (behind_greater x z xs s i) (in-cons_cases (f z (in_more x i))))
    (λ z i. later y x xs (sym first) z (behind_greater y z ys t i) (in-cons_cases (g z (in_more y i)))) in
    λ u. first u ∷ rest u
  where
    one : (x ≡ y) ⊎ IsIn x ys → (y ≡ x) ⊎ IsIn y xs → x ≡ y
    one (inl e) j = e
    one (inr i) (inl e) = sym e
    one (inr i) (inr j) = absurd (below_itself x.0 (nat_list_cmp_total.trans x.0 y.0 x.0 (behind_greater x y xs s j) (behind_greater y x ys t i)))

    later : (v w : Texts) (ws : List Texts) → v ≡ w → (z : Texts) → slice_cmp nat_cmp v.0 z.0 ≡ Less → (z ≡ w) ⊎ IsIn z ws → IsIn z ws
    later v w ws e z lt (inl h) = absurd (below_itself v.0 (ap (λ (k : Texts). slice_cmp nat_cmp v.0 k.0) (e ∙ sym h) ∙ lt))
    later v w ws e z lt (inr j) = j
