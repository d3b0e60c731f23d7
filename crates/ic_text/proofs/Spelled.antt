-- The tokens of bytes without their offsets, piece by piece.
use Rattle.std.proofs.Common.{◌≡◌, ℕ, zero, suc, ◌+◌, ◌/◌, ◌%◌, ◌==◌, nat_lt, nat_le, ◌||◌, Bool, true, false, if◌then◌else◌, eqb, List, [], ◌∷◌, ◌++◌, length, take, Option, Some, None, refl, ap, ◌∙◌, arith, codes, decimal, map, append_assoc}
use Rattle.std.specs.List.{AllByRecursion, take_while, prefix_len}
use Rattle.std.specs.Fmt.{digits, digits_onto, digit_glyph}
use Rattle.std.proofs.lemmas.Bool.Decides.{nat_tests}
use Rattle.ic_text.specs.Texts.{is_letter, is_digit, is_name_byte}
use Rattle.ic_name.specs.declared.kinds.Kind.TheVariants.{Gamma, Delta, Eps}
use Rattle.ic_name.specs.declared.rules.Profile.{Profile}
use Rattle.ic_name.specs.declared.rules.Profile.TheVariants.{Classic, Straight}
use Rattle.ic_text.specs.Tokens.{Token, symbol, name, opening, closing, comma, equals, semicolon, is_gap, is_comment_byte, Mode, between, in_name, in_comment, token_from, token_at, mode_from, mode_after, with_item, items}
use Rattle.ic_text.specs.Grammar.{heading}
use Rattle.ic_text.specs.NetText.{numbered, header, profile_line}
use Rattle.ic_text.proofs.Everywhere.{each_so}

-- a token, if there is one, and those behind it
abbrev pub with_token : Option Token → List Token → List Token
with_token None ts = ts
with_token (Some t) ts = t ∷ ts

-- the tokens of bytes that begin in a mode
abbrev pub spelled : Mode → List ℕ → List Token
spelled m [] = []
spelled m (b ∷ bs) = with_token (token_at m b bs) (spelled (mode_after m b) bs)

-- they are those of the items, whatever the offset
pub spelled_is : (m : Mode) (o : ℕ) (bs : List ℕ) → map (λ i. i.token) (items m o bs) ≡ spelled m bs
unfolding items
spelled_is m o [] = refl
spelled_is m o (b ∷ bs) = go (token_at m b bs) (spelled_is (mode_after m b) (o + 1) bs)
  where
    go : (t : Option Token) → map (λ i. i.token) (items (mode_after m b) (o + 1) bs) ≡ spelled (mode_after m b) bs → map (λ i. i.token) (with_item o t (items (mode_after m b) (o + 1) bs)) ≡ with_token t (spelled (mode_after m b) bs)
    go None h = h
    go (Some t) h = ap (λ ts. t ∷ ts) h

-- ---- names

-- a name of the text: a letter or `_`, and then bytes with which a name goes on
abbrev pub IsNameText : List ℕ → Type 0
IsNameText [] = ⊥
IsNameText (b ∷ bs) = (is_letter b ≡ true) × AllByRecursion (λ c. is_name_byte c ≡ true) bs

-- the bytes of a name that end at another byte
name_len : (bs rest : List ℕ) (c : ℕ) → AllByRecursion (λ b. is_name_byte b ≡ true) bs → is_name_byte c ≡ false → prefix_len is_name_byte (bs ++ c ∷ rest) ≡ length bs
name_len [] rest c h n = rw n refl
name_len (b ∷ bs) rest c h n = rw h.0 (omega (arith, name_len bs rest c h.1 n))

-- the first of two lists in a row
take_first : (bs rest : List ℕ) → take (length bs) (bs ++ rest) ≡ bs
take_first [] rest = refl
take_first (b ∷ bs) rest = ap (λ cs. b ∷ cs) (take_first bs rest)

-- the bytes of a name
name_bytes : (bs rest : List ℕ) (c : ℕ) → AllByRecursion (λ b. is_name_byte b ≡ true) bs → is_name_byte c ≡ false → take_while is_name_byte (bs ++ c ∷ rest) ≡ bs
name_bytes bs rest c h n = rw (name_len bs rest c h n) (take_first bs (c ∷ rest))

-- within a name there is no token
behind_name : (bs rest : List ℕ) (c : ℕ) → AllByRecursion (λ b. is_name_byte b ≡ true) bs → is_name_byte c ≡ false → spelled in_name (bs ++ c ∷ rest) ≡ spelled between (c ∷ rest)
unfolding token_at mode_after
behind_name [] rest c h n = rw n refl
behind_name (b ∷ bs) rest c h n = rw h.0 (behind_name bs rest c h.1 n)

-- a letter is no gap and no `#`
letter_no_gap : (b : ℕ) → is_letter b ≡ true → (is_gap b || eqb b 35) ≡ false
letter_no_gap b h = grind (arith, nat_tests)

-- a letter is no `#`
letter_no_hash : (b : ℕ) → is_letter b ≡ true → eqb b 35 ≡ false
letter_no_hash b h = grind (arith, nat_tests)

-- a name, and a byte that ends it
pub a_name : (x rest : List ℕ) (c : ℕ) → IsNameText x → is_name_byte c ≡ false → spelled between (x ++ c ∷ rest) ≡ name x ∷ spelled between (c ∷ rest)
unfolding token_at mode_after token_from mode_from
a_name [] rest c h n = absurd h
a_name (b ∷ bs) rest c h n =
    let g = letter_no_gap b h.0 in
    let k = letter_no_hash b h.0 in
    let l : is_letter b ≡ true = h.0 in
    rw (g, k, l, name_bytes bs rest c h.1 n, behind_name bs rest c h.1 n) refl

-- ---- numbers

-- the glyph of a decimal digit
glyph_digit : (n : ℕ) → is_digit (digit_glyph false (n % 10)) ≡ true
glyph_digit n =
    let lt : nat_lt (n % 10) 10 ≡ true = grind (arith, nat_tests) in
    let low : nat_le 48 (48 + n % 10) ≡ true = grind (arith, nat_tests) in
    let high : nat_le (48 + n % 10) 57 ≡ true = grind (arith, nat_tests) in
    rw (lt, low, high) refl

-- digits are all that is written
onto_digits : (k n : ℕ) (acc : List ℕ) → AllByRecursion (λ b. is_digit b ≡ true) acc → AllByRecursion (λ b. is_digit b ≡ true) (digits_onto k 10 false n acc)
onto_digits zero n acc h = h
onto_digits (suc k) n acc h = go (n / 10 == 0) (onto_digits k (n / 10) (digit_glyph false (n % 10) ∷ acc) (glyph_digit n, h))
  where
    go : (b : Bool) → AllByRecursion (λ b. is_digit b ≡ true) (digits_onto k 10 false (n / 10) (digit_glyph false (n % 10) ∷ acc))
        → AllByRecursion (λ b. is_digit b ≡ true) (if b then digit_glyph false (n % 10) ∷ acc else digits_onto k 10 false (n / 10) (digit_glyph false (n % 10) ∷ acc))
    go true ih = (glyph_digit n, h)
    go false ih = ih

pub decimal_digits : (n : ℕ) → AllByRecursion (λ b. is_digit b ≡ true) (decimal n)
unfolding digits
decimal_digits n = onto_digits 64 n [] tt

-- a digit goes on with a name
digit_goes_on : (b : ℕ) → is_digit b ≡ true → is_name_byte b ≡ true
digit_goes_on b h = grind (arith, nat_tests)

-- `_` and a number is a name
pub numbered_is_name : (k : ℕ) → IsNameText (numbered k)
numbered_is_name k = (refl, each_so _ _ (decimal k) digit_goes_on (decimal_digits k))

-- ---- comments

-- a digit may stand in a comment
digit_in_comment : (b : ℕ) → is_digit b ≡ true → is_comment_byte b ≡ true
digit_in_comment b h = grind (arith, nat_tests)

-- bytes of a comment, but its end
comment_bytes : (bs rest : List ℕ) → AllByRecursion (λ b. is_digit b ≡ true) bs → spelled in_comment (bs ++ rest) ≡ spelled in_comment rest
unfolding token_at mode_after
comment_bytes [] rest h = refl
comment_bytes (b ∷ bs) rest h =
    let e : eqb b 10 ≡ false = (let k : is_digit b ≡ true = h.0 in grind (arith, nat_tests)) in
    let c = digit_in_comment b h.0 in
    rw (e, c) (comment_bytes bs rest h.1)

-- a number in a comment, and what follows it
comment_number : (n : ℕ) (rest : List ℕ) → spelled in_comment (decimal n ++ rest) ≡ spelled in_comment rest
comment_number n rest = comment_bytes (decimal n) rest (decimal_digits n)

-- the words of the first line
words : (rest : List ℕ) → spelled between (codes "# agents " ++ rest) ≡ spelled in_comment rest
unfolding token_at mode_after token_from mode_from
words rest = refl

wires_word : (rest : List ℕ) → spelled in_comment (codes " wires " ++ rest) ≡ spelled in_comment rest
unfolding token_at mode_after
wires_word rest = refl

rings_word : (rest : List ℕ) → spelled in_comment (codes " rings " ++ rest) ≡ spelled in_comment rest
unfolding token_at mode_after
rings_word rest = refl

line_end : (rest : List ℕ) → spelled in_comment (codes "\n" ++ rest) ≡ spelled between rest
unfolding token_at mode_after
line_end rest = refl

-- the first line has no token
pub header_spelled : (a w r : ℕ) (rest : List ℕ) → spelled between (header a w r ++ rest) ≡ spelled between rest
header_spelled a w r rest =
    let parts : header a w r ++ rest ≡ codes "# agents " ++ (decimal a ++ (codes " wires " ++ (decimal w ++ (codes " rings " ++ (decimal r ++ (codes "\n" ++ rest)))))) = simp append_assoc refl in
    ap (spelled between) parts
    ∙ words _ ∙ comment_number a _
    ∙ wires_word _ ∙ comment_number w _
    ∙ rings_word _ ∙ comment_number r _
    ∙ line_end rest

-- ---- the profile

-- the line of the profile
pub profile_spelled : (p : Profile) (rest : List ℕ) → spelled between (profile_line p ++ rest) ≡ heading p (spelled between rest)
unfolding token_at mode_after token_from mode_from
profile_spelled Classic rest = refl
profile_spelled Straight rest = refl

-- ---- marks

-- a name, and ` = `
pub equals_spelled : (x rest : List ℕ) → IsNameText x → spelled between (x ++ (codes " = " ++ rest)) ≡ name x ∷ equals ∷ spelled between rest
unfolding token_at mode_after token_from mode_from
equals_spelled x rest h = a_name x (61 ∷ 32 ∷ rest) 32 h refl

-- a name, and the end of a line
pub line_spelled : (x rest : List ℕ) → IsNameText x → spelled between (x ++ (codes ";\n" ++ rest)) ≡ name x ∷ semicolon ∷ spelled between rest
unfolding token_at mode_after token_from mode_from
line_spelled x rest h = a_name x (10 ∷ rest) 59 h refl

-- the symbol without arguments, and ` = `
pub eps_spelled : (rest : List ℕ) → spelled between (codes "E" ++ (codes " = " ++ rest)) ≡ symbol Eps ∷ equals ∷ spelled between rest
unfolding token_at mode_after token_from mode_from
eps_spelled rest = refl

-- two arguments that are names, and ` = `
arguments_spelled : (x y rest : List ℕ) → IsNameText x → IsNameText y
    → spelled between (codes "(" ++ (x ++ (codes "," ++ (y ++ (codes ")" ++ (codes " = " ++ rest)))))) ≡ opening ∷ name x ∷ comma ∷ name y ∷ closing ∷ equals ∷ spelled between rest
unfolding token_at mode_after token_from mode_from
arguments_spelled x y rest h k =
    let more : List ℕ = codes ")" ++ (codes " = " ++ rest) in
    let one : spelled between (x ++ (codes "," ++ (y ++ more))) ≡ name x ∷ comma ∷ spelled between (y ++ more) = a_name x (y ++ more) 44 h refl in
    let two : spelled between (y ++ more) ≡ name y ∷ closing ∷ equals ∷ spelled between rest = a_name y (codes " = " ++ rest) 41 k refl in
    ap (λ ts. opening ∷ ts) (one ∙ ap (λ ts. name x ∷ comma ∷ ts) two)

-- a symbol with two such arguments
pub gamma_spelled : (x y rest : List ℕ) → IsNameText x → IsNameText y
    → spelled between (codes "G" ++ (codes "(" ++ (x ++ (codes "," ++ (y ++ (codes ")" ++ (codes " = " ++ rest))))))) ≡ symbol Gamma ∷ opening ∷ name x ∷ comma ∷ name y ∷ closing ∷ equals ∷ spelled between rest
unfolding token_at mode_after token_from mode_from
gamma_spelled x y rest h k = ap (λ ts. symbol Gamma ∷ ts) (arguments_spelled x y rest h k)

pub delta_spelled : (x y rest : List ℕ) → IsNameText x → IsNameText y
    → spelled between (codes "D" ++ (codes "(" ++ (x ++ (codes "," ++ (y ++ (codes ")" ++ (codes " = " ++ rest))))))) ≡ symbol Delta ∷ opening ∷ name x ∷ comma ∷ name y ∷ closing ∷ equals ∷ spelled between rest
unfolding token_at mode_after token_from mode_from
delta_spelled x y rest h k = ap (λ ts. symbol Delta ∷ ts) (arguments_spelled x y rest h k)
