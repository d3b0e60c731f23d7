-- Keys are in the order of their names.
use Rattle.std.proofs.Common.{◌≡◌, ℕ, ◌+◌, ◌*◌, ◌^◌, ◌<◌, ◌≤◌, ◌/◌, ◌%◌, [], ◌∷◌, ◌++◌, length, refl, ◌∙◌, ap, arith, ◌⊎◌, inl, inr, ◌-◌, length-append}
use Rattle.std.proofs.lemmas.Bool.{cases_order, cases_lt}
use Rattle.std.specs.declared.cmp.Ordering.TheVariants.{Less, Greater}
use Rattle.std.specs.Ordering.{nat_cmp, ordering_reverse}
use Rattle.std.specs.Cmp.Lexicographic.{slice_cmp}
use Rattle.ic_name.specs.Names.{Name, IsName, depth, name_cmp, start_name, child_name}
use Rattle.ic_name.proofs.NameOrder.{name_cmp_total}
use Rattle.ic_names.specs.Keys.{IsProper, front_of, key_of}
use Rattle.ic_names.proofs.Fronts.{front_below, front_less, nat_less, nat_tied, front-nil, front-push, front-push_past}

-- the front of a name's digits
pub front_fits : (n : Name) → IsProper n → front_of 17 n.digits < 2 ^ 34
front_fits n is = front_below 17 n.digits is.digit

-- a number of three parts in order
parts_less : (d s f e t g : ℕ) → s < 65535 → t < 65535 → f < 2 ^ 34 → g < 2 ^ 34 → d * 2 ^ 50 + s * 2 ^ 34 + f < e * 2 ^ 50 + t * 2 ^ 34 + g → (d < e) ⊎ ((d ≡ e) × ((s < t) ⊎ ((s ≡ t) × (f < g))))
parts_less d s f e t g ss ts fs gs h = by (cases_order d e) (cases_order s t)
  where
    by : (d ≡ e) ⊎ ((d < e) ⊎ (e < d)) → (s ≡ t) ⊎ ((s < t) ⊎ (t < s)) → (d < e) ⊎ ((d ≡ e) × ((s < t) ⊎ ((s ≡ t) × (f < g))))
    by (inr (inl less)) c = inl less
    by (inr (inr more)) c = absurd (omega arith)
    by (inl same) (inr (inl less)) = inr (same, inl less)
    by (inl same) (inr (inr more)) = absurd (omega arith)
    by (inl same) (inl tied) = inr (same, inr (tied, omega arith))

-- the parts of one number
parts_same : (d s f e t g : ℕ) → s < 65535 → t < 65535 → f < 2 ^ 34 → g < 2 ^ 34 → d * 2 ^ 50 + s * 2 ^ 34 + f ≡ e * 2 ^ 50 + t * 2 ^ 34 + g → (d ≡ e) × (s ≡ t)
parts_same d s f e t g ss ts fs gs h = (omega arith, omega arith)

pub key_less : (a b : Name) → IsProper a → IsProper b → key_of a < key_of b → name_cmp a b ≡ Less
key_less a b x y h = by (parts_less (depth a) a.start (front_of 17 a.digits) (depth b) b.start (front_of 17 b.digits) x.starts y.starts (front_fits a x) (front_fits b y) h)
  where
    by : (depth a < depth b) ⊎ ((depth a ≡ depth b) × ((a.start < b.start) ⊎ ((a.start ≡ b.start) × (front_of 17 a.digits < front_of 17 b.digits)))) → name_cmp a b ≡ Less
    by (inl less) = rw (nat_less _ _ less) refl
    by (inr (same, inl less)) = rw (nat_tied _ _ same, nat_less _ _ less) refl
    by (inr (same, inr (tied, less))) = rw (nat_tied _ _ same, nat_tied _ _ tied) (front_less 17 a.digits b.digits x.digit y.digit same less)

pub key_tied : (a b : Name) → IsProper a → IsProper b → key_of a ≡ key_of b → (depth a ≡ depth b) × (a.start ≡ b.start)
key_tied a b x y h = parts_same (depth a) a.start (front_of 17 a.digits) (depth b) b.start (front_of 17 b.digits) x.starts y.starts (front_fits a x) (front_fits b y) h

pub name_proper : (n : Name) → IsName n → IsProper n
name_proper n is = record { starts = is.starts; digit = is.digit }

pub key_fits : (n : Name) → IsProper n → depth n ≤ 16383 → key_of n < 2 ^ 64
key_fits n is h = let front = front_fits n is in let starts = is.starts in omega arith

-- the key of a start agent's name
pub key-start : (k : ℕ) → key_of (start_name k) ≡ k * 17179869184
key-start k = omega (arith, front-nil 17)

-- the depth stands in front
pub key_depth : (n : Name) → IsProper n → key_of n / 1125899906842624 ≡ depth n
key_depth n is = let front = front_fits n is in let starts = is.starts in omega arith

-- the start number stands after it
pub key_start_number : (n : Name) → IsProper n → key_of n % 1125899906842624 / 17179869184 ≡ n.start
key_start_number n is = let front = front_fits n is in let starts = is.starts in omega arith

-- the key of a child, by what its digit adds
pub key-child : (n : Name) (d more : ℕ) → (depth n < 17 → more ≡ d * 4 ^ (16 - depth n)) → (17 ≤ depth n → more ≡ 0) → key_of n + 1125899906842624 + more ≡ key_of (child_name n d)
key-child n d more inside past = by (cases_lt (depth n) 17)
  where
    longer : length (n.digits ++ d ∷ []) ≡ length n.digits + 1
    longer = omega (arith, length-append n.digits (d ∷ []))

    by : (depth n < 17) ⊎ (17 ≤ depth n) → key_of n + 1125899906842624 + more ≡ key_of (child_name n d)
    by (inl low) =
        let front = front-push 17 n.digits d low in
        let adds = inside low in
        let len = longer in
        omega arith
    by (inr high) =
        let front = front-push_past 17 n.digits d high in
        let adds = past high in
        let len = longer in
        omega arith

-- names of one depth and one start number are in the order of their digits
pub tied_order : (a b : Name) → depth a ≡ depth b → a.start ≡ b.start → slice_cmp nat_cmp a.digits b.digits ≡ name_cmp a b
tied_order a b deep start = rw (nat_tied _ _ deep, nat_tied _ _ start) refl

pub key_greater : (a b : Name) → IsProper a → IsProper b → key_of b < key_of a → name_cmp a b ≡ Greater
key_greater a b x y h = name_cmp_total.antisymm a b ∙ ap ordering_reverse (key_less b a y x h)
