-- First lines of bytes: how long they are, and what they are of bytes that are joined.
use Rattle.std.proofs.Common.{◌≡◌, ℕ, suc, ◌+◌, ◌<◌, ◌≤◌, Bool, true, false, List, [], ◌∷◌, ◌++◌, length, take, drop, refl, sym, ap, arith, ◌∙◌, eqb, add-one}
use Rattle.std.proofs.lemmas.List.{drop-drop, drop_all}
use Rattle.std.specs.Prelude.{if◌then◌else◌, not}
use Rattle.std.specs.List.{prefix_len}
use Rattle.ic_command.specs.Lines.{first_line, has_feed, behind_line, goes_on}

pub prefix_is : (xs : List ℕ) → prefix_len goes_on xs ≡ length (first_line xs)
prefix_is [] = refl
prefix_is (x ∷ xs) = go (eqb x 10) (prefix_is xs)
  where
    go : (b : Bool) → prefix_len goes_on xs ≡ length (first_line xs)
        → (if not b then 1 + prefix_len goes_on xs else 0) ≡ length (if b then [] else x ∷ first_line xs)
    go true h = refl
    go false h = omega arith

-- the first line is what stands in front of its length
pub take_first : (xs : List ℕ) → take (length (first_line xs)) xs ≡ first_line xs
take_first [] = refl
take_first (x ∷ xs) = go (eqb x 10) (take_first xs)
  where
    go : (b : Bool) → take (length (first_line xs)) xs ≡ first_line xs → take (length (if b then [] else x ∷ first_line xs)) (x ∷ xs) ≡ (if b then [] else x ∷ first_line xs)
    go true h = refl
    go false h = ap (λ ys. x ∷ ys) h

-- with a line feed, it is shorter than all, and the feed stands behind it
pub drop_first : (xs : List ℕ) → length (first_line xs) < length xs → (has_feed xs ≡ true) × (drop (length (first_line xs) + 1) xs ≡ behind_line xs)
drop_first [] h = absurd (omega arith)
drop_first (x ∷ xs) h = go (eqb x 10) refl (drop_first xs)
  where
    go : (b : Bool) → eqb x 10 ≡ b → (length (first_line xs) < length xs → (has_feed xs ≡ true) × (drop (length (first_line xs) + 1) xs ≡ behind_line xs))
        → (has_feed (x ∷ xs) ≡ true) × (drop (length (first_line (x ∷ xs)) + 1) (x ∷ xs) ≡ behind_line (x ∷ xs))
    go true e f = rw e (refl, refl)
    go false e f =
        let h' : suc (length (first_line xs)) < suc (length xs) = rw e at h in
        let r = f (omega arith) in
        rw e (r.0, rw add-one (rw add-one at r.1))

-- without one, it is all
pub all_first : (xs : List ℕ) → length xs ≤ length (first_line xs) → (has_feed xs ≡ false) × (first_line xs ≡ xs)
all_first [] h = (refl, refl)
all_first (x ∷ xs) h = go (eqb x 10) refl (all_first xs)
  where
    go : (b : Bool) → eqb x 10 ≡ b → (length xs ≤ length (first_line xs) → (has_feed xs ≡ false) × (first_line xs ≡ xs)) → (has_feed (x ∷ xs) ≡ false) × (first_line (x ∷ xs) ≡ x ∷ xs)
    go true e f = let h' : suc (length xs) ≤ 0 = rw e at h in absurd (omega arith)
    go false e f =
        let h' : suc (length xs) ≤ suc (length (first_line xs)) = rw e at h in
        let r = f (omega arith) in
        rw e (r.0, ap (λ ys. x ∷ ys) r.1)

-- the first line of bytes with a feed doesn't look behind it
pub first-append : (xs ys : List ℕ) → has_feed xs ≡ true → (first_line (xs ++ ys) ≡ first_line xs) × (has_feed (xs ++ ys) ≡ true) × (behind_line (xs ++ ys) ≡ behind_line xs ++ ys)
first-append [] ys h = cc
first-append (x ∷ xs) ys h = go (eqb x 10) refl (first-append xs ys)
  where
    go : (b : Bool) → eqb x 10 ≡ b → (has_feed xs ≡ true → (first_line (xs ++ ys) ≡ first_line xs) × (has_feed (xs ++ ys) ≡ true) × (behind_line (xs ++ ys) ≡ behind_line xs ++ ys))
        → (first_line (x ∷ (xs ++ ys)) ≡ first_line (x ∷ xs)) × (has_feed (x ∷ (xs ++ ys)) ≡ true) × (behind_line (x ∷ (xs ++ ys)) ≡ behind_line (x ∷ xs) ++ ys)
    go true e f = rw e (refl, refl, refl)
    go false e f = let h' : has_feed xs ≡ true = rw e at h in let r = f h' in rw e (ap (λ zs. x ∷ zs) r.0, r.1, r.2)

-- bytes without a feed are in the first line
pub first-prepend : (xs ys : List ℕ) → has_feed xs ≡ false → (first_line (xs ++ ys) ≡ xs ++ first_line ys) × (has_feed (xs ++ ys) ≡ has_feed ys) × (behind_line (xs ++ ys) ≡ behind_line ys)
first-prepend [] ys h = (refl, refl, refl)
first-prepend (x ∷ xs) ys h = go (eqb x 10) refl (first-prepend xs ys)
  where
    go : (b : Bool) → eqb x 10 ≡ b → (has_feed xs ≡ false → (first_line (xs ++ ys) ≡ xs ++ first_line ys) × (has_feed (xs ++ ys) ≡ has_feed ys) × (behind_line (xs ++ ys) ≡ behind_line ys))
        → (first_line (x ∷ (xs ++ ys)) ≡ x ∷ (xs ++ first_line ys)) × (has_feed (x ∷ (xs ++ ys)) ≡ has_feed ys) × (behind_line (x ∷ (xs ++ ys)) ≡ behind_line ys)
    go true e f = let h' : true ≡ false = rw e at h in cc
    go false e f = let h' : has_feed xs ≡ false = rw e at h in let r = f h' in rw e (ap (λ zs. x ∷ zs) r.0, r.1, r.2)

-- a first line is no longer than the bytes
pub first_within : (xs : List ℕ) → length (first_line xs) ≤ length xs
first_within [] = omega arith
first_within (x ∷ xs) = go (eqb x 10) (first_within xs)
  where
    go : (b : Bool) → length (first_line xs) ≤ length xs → length (if b then [] else x ∷ first_line xs) ≤ suc (length xs)
    go true h = omega arith
    go false h = omega arith

-- a line feed is found in the buffer
pub front_whole : (buffer bytes line longer : List ℕ) (start count : ℕ) → bytes ≡ drop start buffer → count ≡ length (first_line bytes) → count < length bytes → longer ≡ line ++ take count bytes
    → (has_feed (drop start buffer) ≡ true) × (longer ≡ line ++ first_line (drop start buffer)) × (drop (start + (count + 1)) buffer ≡ behind_line (drop start buffer))
front_whole buffer bytes line longer start count e c h l =
    let c' : count ≡ length (first_line (drop start buffer)) = c ∙ ap (λ xs. length (first_line xs)) e in
    let h' : length (first_line (drop start buffer)) < length (drop start buffer) = omega (arith, ap length e) in
    let r = drop_first (drop start buffer) h' in
    (r.0, l ∙ rw (e, c', take_first (drop start buffer)) refl, drop-drop' buffer start (count + 1) ∙ (ap (λ n. drop (n + 1) (drop start buffer)) c' ∙ r.1))
  where
    drop-drop' : (xs : List ℕ) (m n : ℕ) → drop (m + n) xs ≡ drop n (drop m xs)
    drop-drop' xs m n = sym (drop-drop n m xs)

-- no line feed is found in it
pub front_part : (buffer bytes line longer : List ℕ) (start count n : ℕ) → bytes ≡ drop start buffer → count ≡ length (first_line bytes) → length bytes ≤ count → longer ≡ line ++ take count bytes → n ≡ length buffer
    → (has_feed (drop start buffer) ≡ false) × (longer ≡ line ++ drop start buffer) × (drop n buffer ≡ [])
front_part buffer bytes line longer start count n e c h l m =
    let c' : count ≡ length (first_line (drop start buffer)) = c ∙ ap (λ xs. length (first_line xs)) e in
    let h' : length (drop start buffer) ≤ length (first_line (drop start buffer)) = omega (arith, ap length e) in
    let r = all_first (drop start buffer) h' in
    (r.0, l ∙ rw (e, c', take_first (drop start buffer), r.1) refl, drop_all n buffer (omega arith))
