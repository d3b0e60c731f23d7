-- Anchors and blocks of names, and those of their children.
use Rattle.std.proofs.Common.{◌≡◌, ◌≢◌, ℕ, suc, ◌+◌, ◌*◌, ◌%◌, ◌^◌, ◌<◌, ◌≤◌, List, [], ◌∷◌, ◌++◌, length, take, drop, get_or, sym, ◌∙◌, ap, arith, length-append, mul_assoc, ◌⊎◌, inl, inr}
use Rattle.std.specs.Prelude.{All}
use Rattle.std.proofs.lemmas.Bool.{cases_eq}
use Rattle.std.proofs.Math.Nat.{pow-suc, pow-le-pow_right}
use Rattle.std.proofs.lemmas.List.{length-drop, length-take-le, drop-append-le, drop_at, take_more}
use Rattle.std.proofs.lemmas.List.Elements.{All-drop, All-take}
use Rattle.ic_name.specs.Names.{Name, depth, start_name, child_name}
use Rattle.ic_names.specs.Keys.{IsProper, front_of}
use Rattle.ic_names.specs.Blocks.{anchor_depth, anchor_of, number_of, block_of, last_of}
use Rattle.ic_names.proofs.Fronts.{front_below, front-nil}

-- a number of digits with one more behind them
pub number-push : (ds : List ℕ) (d : ℕ) → number_of (ds ++ d ∷ []) ≡ 4 * number_of ds + d
unfolding front_of
number-push [] d = omega arith
number-push (x ∷ ds) d =
    let longer : length (ds ++ d ∷ []) ≡ suc (length ds) = omega (arith, length-append ds (d ∷ [])) in
    let rest = number-push ds d in
    let shifted : x * 4 ^ length (ds ++ d ∷ []) ≡ x * 4 ^ length ds * 4 = ap (λ k. x * 4 ^ k) longer ∙ ap (λ p. x * p) (pow-suc 4 (length ds)) ∙ sym (mul_assoc x (4 ^ length ds) 4) in
    omega arith

-- the anchor of a name is an ancestor of it
anchor_within : (n : Name) → anchor_depth n ≤ depth n
anchor_within n = omega arith

pub anchor_deep : (n : Name) → depth (anchor_of n) ≡ anchor_depth n
anchor_deep n = length-take-le (anchor_depth n) n.digits (anchor_within n)

-- one digit more
child_deep : (n : Name) (d : ℕ) → depth (child_name n d) ≡ depth n + 1
child_deep n d = length-append n.digits (d ∷ [])

-- a name at a multiple of 32 is the anchor of its children
at_anchor : (n : Name) (d : ℕ) → depth n % 32 ≡ 0 → anchor_depth (child_name n d) ≡ depth n
at_anchor n d at = omega (arith, child_deep n d)

-- the children of another have its anchor
behind_anchor : (n : Name) (d : ℕ) → depth n % 32 ≢ 0 → anchor_depth (child_name n d) ≡ anchor_depth n
behind_anchor n d behind = omega (arith, child_deep n d, behind)

pub block-child_at : (n : Name) (d : ℕ) → depth n % 32 ≡ 0 → d ≡ block_of (child_name n d)
unfolding front_of
block-child_at n d at =
    let alone : drop (anchor_depth (child_name n d)) (n.digits ++ d ∷ []) ≡ d ∷ [] = drop_at n.digits (d ∷ []) _ (sym (at_anchor n d at)) in
    let one : d ≡ number_of (d ∷ []) = omega arith in
    one ∙ ap number_of (sym alone)

pub block-child_behind : (n : Name) (d : ℕ) → depth n % 32 ≢ 0 → 4 * block_of n + d ≡ block_of (child_name n d)
block-child_behind n d behind =
    let more : drop (anchor_depth (child_name n d)) (n.digits ++ d ∷ []) ≡ drop (anchor_depth n) n.digits ++ d ∷ [] =
    ap (λ k. drop k (n.digits ++ d ∷ [])) (behind_anchor n d behind) ∙ drop-append-le (anchor_depth n) n.digits (d ∷ []) (anchor_within n) in
    sym (number-push (drop (anchor_depth n) n.digits) d) ∙ ap number_of (sym more)

-- the last digit of a child's block is its digit
pub block-child_last : (n : Name) (d : ℕ) → d < 4 → last_of (block_of (child_name n d)) ≡ d
block-child_last n d small = by (cases_eq (depth n % 32) 0)
  where
    by : (depth n % 32 ≡ 0) ⊎ (depth n % 32 ≢ 0) → last_of (block_of (child_name n d)) ≡ d
    by (inl at) = omega (arith, block-child_at n d at, small)
    by (inr behind) = omega (arith, block-child_behind n d behind, small)

-- fewer than 32 digits leave room for one more
number_below : (ds : List ℕ) → All (λ d. d < 4) ds → length ds ≤ 31 → number_of ds < 4 ^ 31
number_below ds all few =
    let below = front_below (length ds) ds all in
    let more : 4 ^ length ds ≤ 4 ^ 31 = pow-le-pow_right {n = 4} (omega arith) few in
    omega arith

-- a block that has room for a digit
pub block_below : (n : Name) → IsProper n → depth n % 32 ≢ 0 → block_of n < 4 ^ 31
block_below n is behind =
    let behind_digits = drop (anchor_depth n) n.digits in
    number_below behind_digits (All-drop (λ d. d < 4) (anchor_depth n) n.digits is.digit) (omega (arith, length-drop (anchor_depth n) n.digits, behind))

-- a number that is read from its digits, the first one first
pub none_read : 0 ≡ number_of []
none_read = sym (front-nil 0)

pub one_read : (ds : List ℕ) (i : ℕ) → i < length ds → 4 * number_of (take i ds) + get_or ds i 0 ≡ number_of (take (i + 1) ds)
one_read ds i h = sym (ap number_of (take_more ds i 0 h) ∙ number-push (take i ds) (get_or ds i 0))

pub read_below : (ds : List ℕ) (i : ℕ) → All (λ d. d < 4) ds → i < length ds → length ds ≤ 32 → number_of (take i ds) < 4 ^ 31
read_below ds i all h few = number_below (take i ds) (All-take (λ d. d < 4) i ds all) (omega (arith, length-take-le i ds (omega arith)))

-- the block of a start agent's name
pub block-start : (k : ℕ) → 0 ≡ block_of (start_name k)
block-start k = sym (front-nil 0)
