-- The bytes of a text fall into gaps and tokens.
use Rattle.std.specs.Prelude.{ℕ, ◌+◌, ◌==◌, nat_le, ◌&&◌, ◌||◌, Bool, List, [], ◌∷◌, Option, Some, None, if◌then◌else◌, codes}
use Rattle.std.specs.List.{take_while}
use Rattle.std.specs.Str.{bytes_eq}
use Rattle.ic_name.specs.declared.kinds.Kind.{Kind}
use Rattle.ic_name.specs.declared.kinds.Kind.TheVariants.{Gamma, Delta, Eps}
use Rattle.ic_text.specs.Texts.{is_letter, is_digit, is_name_byte}

-- A token. The profile is the nine bytes `@straight`. An `@` that begins no profile, a digit that no name runs over, and
-- a byte that may not stand where it does count as tokens too.
pub data Token : Type 0 where
  symbol : Kind → Token
  name : List ℕ → Token
  opening : Token
  closing : Token
  comma : Token
  equals : Token
  semicolon : Token
  profile : Token
  stray : Token
  digit : Token
  bad : Token

-- a byte between tokens
abbrev pub is_gap : ℕ → Bool
is_gap b = (b == 32) || (b == 9) || (b == 13) || (b == 10)

-- a byte that a comment may have
abbrev pub is_comment_byte : ℕ → Bool
is_comment_byte b = (nat_le 32 b && nat_le b 126) || (b == 9) || (b == 13)

-- the token of one byte
abbrev pub single : ℕ → Token
single b =
    if b == 71 then symbol Gamma
    else if b == 68 then symbol Delta
    else if b == 69 then symbol Eps
    else if b == 40 then opening
    else if b == 41 then closing
    else if b == 44 then comma
    else if b == 61 then equals
    else if b == 59 then semicolon
    else if is_digit b then digit
    else bad

-- behind an `@`: the letters of `straight`, and then no byte that a name goes on with
abbrev pub begins_profile : List ℕ → Bool
begins_profile bs = bytes_eq (take_while is_name_byte bs) (codes "straight")

-- the token of an `@`, by what is behind it
abbrev pub at_sign : List ℕ → Token
at_sign bs = if begins_profile bs then profile else stray

-- what a byte stands in: a name or the letters behind an `@`, a comment, or neither
pub data Mode : Type 0 where
  between : Mode
  in_name : Mode
  in_comment : Mode

-- the token that begins with a byte, if one does; the bytes behind it follow
unfoldable pub token_from : ℕ → List ℕ → Option Token
token_from b bs =
    if is_gap b || (b == 35) then None
    else if is_letter b then Some (name (b ∷ take_while is_name_byte bs))
    else if b == 64 then Some (at_sign bs)
    else Some (single b)

-- the token that begins with a byte, by what the byte stands in
unfoldable pub token_at : Mode → ℕ → List ℕ → Option Token
token_at between b bs = token_from b bs
token_at in_name b bs = if is_name_byte b then None else token_from b bs
token_at in_comment b bs = if (b == 10) || is_comment_byte b then None else Some bad

-- what the next byte stands in
unfoldable pub mode_from : ℕ → Mode
mode_from b = if b == 35 then in_comment else if is_letter b || (b == 64) then in_name else between

-- what the next byte stands in, by what this one does
unfoldable pub mode_after : Mode → ℕ → Mode
mode_after between b = mode_from b
mode_after in_name b = if is_name_byte b then in_name else mode_from b
mode_after in_comment b = if b == 10 then between else in_comment

-- a token and the offset of its first byte
pub record Item : Type 0 where
  pub at : ℕ
  pub token : Token

-- a token at an offset, if there is one, and those behind it
abbrev pub with_item : ℕ → Option Token → List Item → List Item
with_item o None rest = rest
with_item o (Some t) rest = record { at = o; token = t } ∷ rest

-- the tokens of the bytes from an offset on
unfoldable pub items : Mode → ℕ → List ℕ → List Item
items m o [] = []
items m o (b ∷ bs) = with_item o (token_at m b bs) (items (mode_after m b) (o + 1) bs)
