-- The first digits as one number.
use Rattle.std.proofs.Common.{◌≡◌, ℕ, zero, suc, ◌+◌, ◌-◌, ◌*◌, ◌^◌, ◌<◌, ◌≤◌, List, [], ◌∷◌, ◌++◌, length, refl, sym, ◌∙◌, ap, arith, ◌⊎◌, inl, inr}
use Rattle.std.specs.Prelude.{All}
use Rattle.std.proofs.Math.Nat.{pow-suc, mul-le-mul_left, mul_comm, one-le-pow}
use Rattle.std.proofs.lemmas.Bool.{cases_order}
use Rattle.std.proofs.lemmas.List.Elements.{All-head, All-tail}
use Rattle.std.specs.declared.cmp.Ordering.TheVariants.{Less, Equal, Greater}
use Rattle.std.specs.Ordering.{nat_cmp, ordering_reverse}
use Rattle.std.specs.Cmp.{nat_cmp_is}
use Rattle.std.specs.Cmp.Lexicographic.{slice_cmp}
use Rattle.std.proofs.lemmas.Cmp.{nat_list_cmp_total}
use Rattle.ic_names.specs.Keys.{front_of}
use Rattle.ic_names.specs.Blocks.{number_of}

-- a digit in front of a number below a power of 4
digit_below : (d c f : ℕ) → d < 4 → f < c → d * c + f < c * 4
digit_below d c f small less =
    let top : c * d ≤ c * 3 = mul-le-mul_left c (omega arith) in
    omega (arith, mul_comm c d)

-- the first digits, as many as that, are a number below that power of 4
pub front_below : (k : ℕ) (ds : List ℕ) → All (λ d. d < 4) ds → front_of k ds < 4 ^ k
unfolding front_of
front_below zero ds all = omega arith
front_below (suc k) [] all = omega (arith, one-le-pow (suc k) 4 (omega arith))
front_below (suc k) (d ∷ ds) all =
    let small = All-head (λ d. d < 4) d ds all in
    let rest = front_below k ds (All-tail (λ d. d < 4) d ds all) in
    rw pow-suc (digit_below d (4 ^ k) (front_of k ds) small rest)

-- two numbers in order
pub nat_less : (x y : ℕ) → x < y → nat_cmp x y ≡ Less
nat_less x y h = sym (nat_cmp_is x y Less h)

nat_greater : (x y : ℕ) → y < x → nat_cmp x y ≡ Greater
nat_greater x y h = sym (nat_cmp_is x y Greater h)

-- one number twice
pub nat_tied : (x y : ℕ) → x ≡ y → nat_cmp x y ≡ Equal
nat_tied x y h = sym (nat_cmp_is x y Equal h)

-- what the first digits decide
digits_decide : (x y c f g : ℕ) → f < c → g < c → x * c + f < y * c + g → (x < y) ⊎ ((x ≡ y) × (f < g))
digits_decide x y c f g low high h = by (cases_order x y)
  where
    by : (x ≡ y) ⊎ ((x < y) ⊎ (y < x)) → (x < y) ⊎ ((x ≡ y) × (f < g))
    by (inl e) =
        let same : x * c ≡ y * c = ap (λ z. z * c) e in
        inr (e, omega arith)
    by (inr (inl less)) = inl less
    by (inr (inr more)) =
        let product : c * (y + 1) ≤ c * x = mul-le-mul_left c (omega arith) in
        absurd (omega (arith, mul_comm c x, mul_comm c y))

-- of lists of one length the one with the lesser front comes first
pub front_less : (k : ℕ) (xs ys : List ℕ) → All (λ d. d < 4) xs → All (λ d. d < 4) ys → length xs ≡ length ys → front_of k xs < front_of k ys → slice_cmp nat_cmp xs ys ≡ Less
unfolding front_of
front_less zero xs ys a b e h = absurd (omega arith)
front_less (suc k) [] [] a b e h = absurd (omega arith)
front_less (suc k) [] (y ∷ ys) a b e h = absurd (omega arith)
front_less (suc k) (x ∷ xs) [] a b e h = absurd (omega arith)
front_less (suc k) (x ∷ xs) (y ∷ ys) a b e h =
    let rest_a = All-tail (λ d. d < 4) x xs a in
    let rest_b = All-tail (λ d. d < 4) y ys b in
    by (digits_decide x y (4 ^ k) (front_of k xs) (front_of k ys) (front_below k xs rest_a) (front_below k ys rest_b) h)
    (front_less k xs ys rest_a rest_b (omega arith))
  where
    by : (x < y) ⊎ ((x ≡ y) × (front_of k xs < front_of k ys)) → (front_of k xs < front_of k ys → slice_cmp nat_cmp xs ys ≡ Less) → slice_cmp nat_cmp (x ∷ xs) (y ∷ ys) ≡ Less
    by (inl less) f = rw (nat_less x y less) refl
    by (inr (same, less)) f = rw (nat_tied x y same) (f less)

-- what two equal numbers say of their digits
digits_same : (x y c f g : ℕ) → f < c → g < c → x * c + f ≡ y * c + g → (x ≡ y) × (f ≡ g)
digits_same x y c f g low high h = by (cases_order x y)
  where
    by : (x ≡ y) ⊎ ((x < y) ⊎ (y < x)) → (x ≡ y) × (f ≡ g)
    by (inl e) =
        let same : x * c ≡ y * c = ap (λ z. z * c) e in
        (e, omega arith)
    by (inr (inl less)) =
        let product : c * (x + 1) ≤ c * y = mul-le-mul_left c (omega arith) in
        absurd (omega (arith, mul_comm c x, mul_comm c y))
    by (inr (inr more)) =
        let product : c * (y + 1) ≤ c * x = mul-le-mul_left c (omega arith) in
        absurd (omega (arith, mul_comm c x, mul_comm c y))

-- lists of one length with one front are tied, if the front has all their digits
front_tied : (k : ℕ) (xs ys : List ℕ) → All (λ d. d < 4) xs → All (λ d. d < 4) ys → length xs ≡ length ys → length xs ≤ k → front_of k xs ≡ front_of k ys → slice_cmp nat_cmp xs ys ≡ Equal
unfolding front_of
front_tied k [] [] a b e few h = refl
front_tied k [] (y ∷ ys) a b e few h = absurd (omega arith)
front_tied k (x ∷ xs) [] a b e few h = absurd (omega arith)
front_tied zero (x ∷ xs) (y ∷ ys) a b e few h = absurd (omega arith)
front_tied (suc k) (x ∷ xs) (y ∷ ys) a b e few h =
    let rest_a = All-tail (λ d. d < 4) x xs a in
    let rest_b = All-tail (λ d. d < 4) y ys b in
    let same = digits_same x y (4 ^ k) (front_of k xs) (front_of k ys) (front_below k xs rest_a) (front_below k ys rest_b) h in
    rw (nat_tied x y same.0) (front_tied k xs ys rest_a rest_b (omega arith) (omega arith) same.1)

-- lists of one length are in the order of their numbers
pub number_order : (xs ys : List ℕ) → All (λ d. d < 4) xs → All (λ d. d < 4) ys → length xs ≡ length ys → nat_cmp (number_of xs) (number_of ys) ≡ slice_cmp nat_cmp xs ys
number_order xs ys a b e = by (cases_order (number_of xs) (number_of ys))
  where
    one : front_of (length xs) ys ≡ number_of ys
    one = ap (λ k. front_of k ys) e

    by : (number_of xs ≡ number_of ys) ⊎ ((number_of xs < number_of ys) ⊎ (number_of ys < number_of xs)) → nat_cmp (number_of xs) (number_of ys) ≡ slice_cmp nat_cmp xs ys
    by (inl same) = nat_tied _ _ same ∙ sym (front_tied (length xs) xs ys a b e (omega arith) (same ∙ sym one))
    by (inr (inl less)) = nat_less _ _ less ∙ sym (front_less (length xs) xs ys a b e (omega (arith, one, less)))
    by (inr (inr more)) =
        let two : front_of (length ys) xs ≡ number_of xs = ap (λ k. front_of k xs) (sym e) in
        let back = front_less (length ys) ys xs b a (sym e) (omega (arith, two, more)) in
        nat_greater _ _ more ∙ sym (nat_list_cmp_total.antisymm xs ys ∙ ap ordering_reverse back)

-- no digits make 0
pub front-nil : (k : ℕ) → front_of k [] ≡ 0
unfolding front_of
front-nil zero = refl
front-nil (suc k) = refl

-- one digit more, where there is a place for it
pub front-push : (k : ℕ) (ds : List ℕ) (d : ℕ) → length ds < k → front_of k (ds ++ d ∷ []) ≡ front_of k ds + d * 4 ^ (k - 1 - length ds)
unfolding front_of
front-push zero ds d h = absurd (omega arith)
front-push (suc k) [] d h =
    let place : suc k - 1 - 0 ≡ k = omega arith in
    let e = ap (λ j. d * 4 ^ j) place in
    omega (arith, front-nil k)
front-push (suc k) (x ∷ ds) d h =
    let place : suc k - 1 - suc (length ds) ≡ k - 1 - length ds = omega arith in
    let e = ap (λ j. d * 4 ^ j) place in
    let rest = front-push k ds d (omega arith) in
    omega arith

-- a power of 4 as one of 2
pub four-pow : (k : ℕ) → 4 ^ k ≡ 2 ^ (2 * k)
four-pow zero = refl
four-pow (suc k) =
    let twice : 2 * suc k ≡ suc (suc (2 * k)) = omega arith in
    let up = pow-suc 4 k in
    let one = pow-suc 2 (2 * k) in
    let two = pow-suc 2 (suc (2 * k)) in
    let rest = four-pow k in
    rw twice (omega arith)

-- one digit more, where there is none
pub front-push_past : (k : ℕ) (ds : List ℕ) (d : ℕ) → k ≤ length ds → front_of k (ds ++ d ∷ []) ≡ front_of k ds
unfolding front_of
front-push_past zero ds d h = refl
front-push_past (suc k) [] d h = absurd (omega arith)
front-push_past (suc k) (x ∷ ds) d h = ap (λ f. x * 4 ^ k + f) (front-push_past k ds d (omega arith))
