-- The tokens of a text, one by one.
use Rattle.std.proofs.Common.{◌≡◌, ℕ, suc, ◌+◌, Bool, true, false, cond, eqb, ◌||◌, List, [], ◌∷◌, length, take, drop, refl, ap, ◌∙◌, arith, ◌≤◌, ◌≢◌, add-zero, codes}
use Rattle.std.specs.List.{prefix_len, take_while}
use Rattle.std.specs.Str.{bytes_eq}
use Rattle.std.proofs.lemmas.List.Sums.{prefix_len-le-length}
use Rattle.std.proofs.lemmas.Bool.Decides.{nat_tests}
use Rattle.ic_text.specs.Tokens.{Token, name, profile, stray, bad, single, is_gap, is_comment_byte, Mode, between, in_name, in_comment, token_from, token_at, mode_from, mode_after, Item, items}
use Rattle.ic_text.specs.Texts.{is_letter, is_name_byte}

-- a letter is no gap and no `#`
letter_no_gap : (b : ℕ) → is_letter b ≡ true → (is_gap b || eqb b 35) ≡ false
letter_no_gap b h = grind (arith, nat_tests)

-- a letter is no `#`
letter_no_hash : (b : ℕ) → is_letter b ≡ true → eqb b 35 ≡ false
letter_no_hash b h = grind (arith, nat_tests)

-- a gap is no `@`
gap_no_at : (b : ℕ) → is_gap b ≡ true → eqb b 64 ≡ false
gap_no_at b h = grind (arith, nat_tests)

-- a byte that is neither a gap nor `#`
no_letter_no_hash : (b : ℕ) → is_gap b ≡ false → b ≢ 35 → (is_gap b || eqb b 35) ≡ false
no_letter_no_hash b h n = rw h (let t : eqb b 35 ≡ false = grind (arith, nat_tests) in t)

-- a name goes on within the bytes
pub name_within : (bs : List ℕ) → prefix_len is_name_byte bs ≤ length bs
name_within bs = prefix_len-le-length is_name_byte bs

-- behind a name the tokens go on as between tokens
pub after_name : (o : ℕ) (bs : List ℕ) → items in_name o bs ≡ items between (o + prefix_len is_name_byte bs) (drop (prefix_len is_name_byte bs) bs)
unfolding items token_at mode_after
after_name o [] = refl
after_name o (b ∷ bs) = by_test (is_name_byte b) refl (after_name (o + 1) bs)
  where
    by_test : (t : Bool) → is_name_byte b ≡ t → items in_name (o + 1) bs ≡ items between ((o + 1) + prefix_len is_name_byte bs) (drop (prefix_len is_name_byte bs) bs) → items in_name o (b ∷ bs) ≡ items between (o + prefix_len is_name_byte (b ∷ bs)) (drop (prefix_len is_name_byte (b ∷ bs)) (b ∷ bs))
    by_test true e ih =
        let m : 1 + prefix_len is_name_byte bs ≡ suc (prefix_len is_name_byte bs) = omega arith in
        let k : (o + 1) + prefix_len is_name_byte bs ≡ o + suc (prefix_len is_name_byte bs) = omega arith in
        rw e (rw m (ih ∙ ap (λ (j : ℕ). items between j (drop (prefix_len is_name_byte bs) bs)) k))
    by_test false e ih = rw (e, add-zero) refl

-- a name
pub a_name : (o b n : ℕ) (s bs : List ℕ) → s ≡ b ∷ bs → is_letter b ≡ true → n ≡ prefix_len is_name_byte bs → items between o s ≡ record { at = o; token = name (take (n + 1) s) } ∷ items between (o + (n + 1)) (drop (n + 1) s)
unfolding items token_at mode_after token_from mode_from
a_name o b n s bs e l k =
    let g = letter_no_gap b l in
    let h = letter_no_hash b l in
    let m : n + 1 ≡ suc (prefix_len is_name_byte bs) = omega arith in
    let j : (o + 1) + prefix_len is_name_byte bs ≡ o + suc (prefix_len is_name_byte bs) = omega arith in
    let rest : items in_name (o + 1) bs ≡ items between (o + suc (prefix_len is_name_byte bs)) (drop (prefix_len is_name_byte bs) bs) = after_name (o + 1) bs ∙ ap (λ (i : ℕ). items between i (drop (prefix_len is_name_byte bs) bs)) j in
    rw e (rw m (rw (g, h, l) (ap (λ (is : List Item). record { at = o; token = name (b ∷ take_while is_name_byte bs) } ∷ is) rest)))

-- an `@` and the letters behind it
pub an_at : (o b n : ℕ) (s bs : List ℕ) (t : Token) → s ≡ b ∷ bs → b ≡ 64 → n ≡ prefix_len is_name_byte bs → t ≡ cond (bytes_eq (take n bs) (codes "straight")) profile stray
    → items between o s ≡ record { at = o; token = t } ∷ items between (o + (n + 1)) (drop n bs)
unfolding items token_at mode_after token_from mode_from
an_at o b n s bs t e f k g =
    let j : (o + 1) + prefix_len is_name_byte bs ≡ o + (prefix_len is_name_byte bs + 1) = omega arith in
    let rest : items in_name (o + 1) bs ≡ items between (o + (prefix_len is_name_byte bs + 1)) (drop (prefix_len is_name_byte bs) bs) = after_name (o + 1) bs ∙ ap (λ (i : ℕ). items between i (drop (prefix_len is_name_byte bs) bs)) j in
    rw (e, f, g, k) (ap (λ (is : List Item). record { at = o; token = cond (bytes_eq (take_while is_name_byte bs) (codes "straight")) profile stray } ∷ is) rest)

-- a byte that may not stand in a comment
pub comment_bad : (o b : ℕ) (s bs : List ℕ) → s ≡ b ∷ bs → b ≢ 10 → is_comment_byte b ≡ false → items in_comment o s ≡ record { at = o; token = bad } ∷ items in_comment (o + 1) bs
unfolding items token_at mode_after
comment_bad o b s bs e n h = let t : eqb b 10 ≡ false = grind (arith, nat_tests) in rw e (rw (t, h) refl)

-- a byte that may
pub comment_goes_on : (o b : ℕ) (s bs : List ℕ) → s ≡ b ∷ bs → b ≢ 10 → is_comment_byte b ≡ true → items in_comment o s ≡ items in_comment (o + 1) bs
unfolding items token_at mode_after
comment_goes_on o b s bs e n h = let t : eqb b 10 ≡ false = grind (arith, nat_tests) in rw e (rw (t, h) refl)

-- the end of a comment
pub comment_ends : (o b : ℕ) (s bs : List ℕ) → s ≡ b ∷ bs → b ≡ 10 → items in_comment o s ≡ items between (o + 1) bs
unfolding items token_at mode_after
comment_ends o b s bs e n = rw e (rw n refl)

-- the beginning of a comment
pub comment_begins : (o b : ℕ) (s bs : List ℕ) → s ≡ b ∷ bs → b ≡ 35 → items between o s ≡ items in_comment (o + 1) bs
unfolding items token_at mode_after token_from mode_from
comment_begins o b s bs e n = rw e (rw n refl)

-- a gap
pub a_gap : (o b : ℕ) (s bs : List ℕ) → s ≡ b ∷ bs → b ≢ 35 → is_letter b ≡ false → is_gap b ≡ true → items between o s ≡ items between (o + 1) bs
unfolding items token_at mode_after token_from mode_from
a_gap o b s bs e n l h =
    let t : eqb b 35 ≡ false = grind (arith, nat_tests) in
    let u : eqb b 64 ≡ false = gap_no_at b h in
    rw e (rw (h, t, l, u) refl)

-- a token of one byte
pub a_single : (o b : ℕ) (s bs : List ℕ) → s ≡ b ∷ bs → b ≢ 35 → b ≢ 64 → is_letter b ≡ false → is_gap b ≡ false → items between o s ≡ record { at = o; token = single b } ∷ items between (o + 1) bs
unfolding items token_at mode_after token_from mode_from
a_single o b s bs e n a l h =
    let t : eqb b 35 ≡ false = grind (arith, nat_tests) in
    let u : eqb b 64 ≡ false = grind (arith, nat_tests) in
    rw e (rw (h, t, l, u) refl)

-- the end
pub nothing_left : (m : Mode) (o : ℕ) (s : List ℕ) → s ≡ [] → items m o s ≡ []
unfolding items
nothing_left m o s e = rw e refl

pub ruleset lexing = (a_name, an_at, comment_bad, comment_goes_on, comment_ends, comment_begins, a_gap, a_single, nothing_left)
