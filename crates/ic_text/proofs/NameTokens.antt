-- The names among the tokens of a text begin with a letter or `_`, and go on with the bytes of names.
use Rattle.std.proofs.Common.{◌≡◌, ℕ, ◌||◌, Bool, true, false, cond, List, [], ◌∷◌, Some, None, refl, sym, if◌then◌else◌, subst, eqb, arith, ◌≤◌}
use Rattle.std.specs.List.{AllByRecursion, take_while}
use Rattle.std.specs.Str.{bytes_eq}
use Rattle.std.proofs.lemmas.List.Sums.{take_while-cons}
use Rattle.std.proofs.lemmas.Slice.Eq.{bytes_eq-Decides}
use Rattle.ic_text.specs.Texts.{is_letter, is_digit, is_name_byte}
use Rattle.ic_name.specs.declared.kinds.Kind.TheVariants.{Gamma, Delta, Eps}
use Rattle.ic_text.specs.Tokens.{Token, symbol, name, opening, closing, comma, equals, semicolon, profile, stray, digit, bad, Mode, between, in_name, in_comment, token_at, token_from, mode_after, single, begins_profile, at_sign, is_gap, is_comment_byte}
use Rattle.ic_text.specs.Grammar.{names, tokens}
use Rattle.ic_text.proofs.Distinct.{times_in}
use Rattle.ic_text.proofs.Spelled.{spelled, spelled_is, with_token, IsNameText}

-- what is taken while a test holds passes it
taken_pass : (p : ℕ → Bool) (xs : List ℕ) → AllByRecursion (λ x. p x ≡ true) (take_while p xs)
taken_pass p [] = tt
taken_pass p (x ∷ xs) = rw (take_while-cons p x xs) (go (p x) refl (taken_pass p xs))
  where
    go : (b : Bool) → p x ≡ b → AllByRecursion (λ y. p y ≡ true) (take_while p xs) → AllByRecursion (λ y. p y ≡ true) (cond b (x ∷ take_while p xs) [])
    go true e h = (e, h)
    go false e h = tt

-- one token and those behind it
abbrev NamesOf : List Token → Type 0
NamesOf ts = AllByRecursion IsNameText (names ts)

-- the token of one byte is no name
single_names : (b : ℕ) (ts : List Token) → NamesOf ts → NamesOf (single b ∷ ts)
single_names b ts h = go (eqb b 71) (eqb b 68) (eqb b 69) (eqb b 40) (eqb b 41) (eqb b 44) (eqb b 61) (eqb b 59) (is_digit b)
  where
    go : (c d e f g i j k l : Bool) → NamesOf ((if c then symbol Gamma else if d then symbol Delta else if e then symbol Eps else if f then opening else if g then closing else if i then comma else if j then equals else if k then semicolon else if l then digit else bad) ∷ ts)
    go true d e f g i j k l = h
    go false true e f g i j k l = h
    go false false true f g i j k l = h
    go false false false true g i j k l = h
    go false false false false true i j k l = h
    go false false false false false true j k l = h
    go false false false false false false true k l = h
    go false false false false false false false true l = h
    go false false false false false false false false true = h
    go false false false false false false false false false = h

-- nor is that of an `@`
at_sign_names : (bs : List ℕ) (ts : List Token) → NamesOf ts → NamesOf (at_sign bs ∷ ts)
at_sign_names bs ts h = go (begins_profile bs)
  where
    go : (b : Bool) → NamesOf ((if b then profile else stray) ∷ ts)
    go true = h
    go false = h

-- the token that a byte begins, if it does
from_names : (b : ℕ) (bs : List ℕ) (ts : List Token) → NamesOf ts → NamesOf (with_token (token_from b bs) ts)
unfolding token_from
from_names b bs ts h = go (is_gap b || eqb b 35) (is_letter b) (eqb b 64) refl
  where
    go : (g l a : Bool) → is_letter b ≡ l → NamesOf (with_token (if g then None else if l then Some (name (b ∷ take_while is_name_byte bs)) else if a then Some (at_sign bs) else Some (single b)) ts)
    go true l a e = h
    go false true a e = ((e, taken_pass is_name_byte bs), h)
    go false false true e = at_sign_names bs ts h
    go false false false e = single_names b ts h

at_names : (m : Mode) (b : ℕ) (bs : List ℕ) (ts : List Token) → NamesOf ts → NamesOf (with_token (token_at m b bs) ts)
unfolding token_at
at_names between b bs ts h = from_names b bs ts h
at_names in_name b bs ts h = go (is_name_byte b)
  where
    go : (n : Bool) → NamesOf (with_token (if n then None else token_from b bs) ts)
    go true = h
    go false = from_names b bs ts h
at_names in_comment b bs ts h = go (eqb b 10 || is_comment_byte b)
  where
    go : (n : Bool) → NamesOf (with_token (if n then None else Some bad) ts)
    go true = h
    go false = h

spelled_names : (m : Mode) (bs : List ℕ) → NamesOf (spelled m bs)
spelled_names m [] = tt
spelled_names m (b ∷ bs) = at_names m b bs (spelled (mode_after m b) bs) (spelled_names (mode_after m b) bs)

-- the names of a text
pub text_names_are : (text : List ℕ) → AllByRecursion IsNameText (names (tokens text))
text_names_are text = subst NamesOf (sym (spelled_is between 0 text)) (spelled_names between text)

-- what holds of all holds of one that occurs
pub occurring_is : (P : List ℕ → Type 0) (x : List ℕ) (xs : List (List ℕ)) → AllByRecursion P xs → 1 ≤ times_in x xs → P x
occurring_is P x [] h o = absurd (omega (arith, o))
occurring_is P x (y ∷ ys) h o = go (bytes_eq x y) refl (occurring_is P x ys h.1)
  where
    go : (b : Bool) → bytes_eq x y ≡ b → (1 ≤ times_in x ys → P x) → P x
    go true e f = subst P (sym ((bytes_eq-Decides x y).0 e)) h.0
    go false e f = f (let k = rw e at o in omega (arith, k))
