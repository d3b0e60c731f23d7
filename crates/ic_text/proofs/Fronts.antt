-- A token of a text, what comes before it and what comes behind it.
use Rattle.std.proofs.Common.{◌≡◌, ℕ, List, [], ◌∷◌, ◌++◌, map, refl, ap, ◌∙◌}
use Rattle.std.specs.List.{AllByRecursion}
use Rattle.std.proofs.lemmas.List.{map-append}
use Rattle.ic_name.specs.declared.rules.Profile.{Profile}
use Rattle.ic_name.specs.declared.rules.Profile.TheVariants.{Classic, Straight}
use Rattle.ic_text.specs.Tokens.{Token, symbol, name, opening, closing, comma, equals, semicolon, profile, stray, digit, bad, Item}
use Rattle.ic_text.specs.Grammar.{Term, named, eps, fork, gamma, delta, Equation, spell, equation_tokens, heading, text_of, tokens, symbols, names}
use Rattle.ic_text.specs.Faults.{At}

-- the tokens are those before it, it, and those behind it
pub split : (text : List ℕ) (front : List Token) (o : ℕ) (t : Token) → At text front o t → (rest : List Token) × (tokens text ≡ front ++ t ∷ rest)
split text front o t a =
    let tokens_of : List Item → List Token = λ is. map (λ i. i.token) is in
    (tokens_of a.rest, ap tokens_of a.parts ∙ map-append (λ (i : Item). i.token) a.before (record { at = o; token = t } ∷ a.rest) ∙ ap (λ ts. ts ++ t ∷ tokens_of a.rest) a.front_is)

-- what holds of each holds of it
pub each_at : {X : Type 0} (P : X → Type 0) (front : List X) (x : X) (rest : List X) → AllByRecursion P (front ++ x ∷ rest) → P x
each_at P [] x rest h = h.0
each_at P (y ∷ front) x rest h = each_at P front x rest h.1

-- the names of two lists in a row
pub names_append : (ts us : List Token) → names (ts ++ us) ≡ names ts ++ names us
names_append [] us = refl
names_append (name x ∷ ts) us = ap (λ xs. x ∷ xs) (names_append ts us)
names_append (symbol k ∷ ts) us = names_append ts us
names_append (opening ∷ ts) us = names_append ts us
names_append (closing ∷ ts) us = names_append ts us
names_append (comma ∷ ts) us = names_append ts us
names_append (equals ∷ ts) us = names_append ts us
names_append (semicolon ∷ ts) us = names_append ts us
names_append (profile ∷ ts) us = names_append ts us
names_append (stray ∷ ts) us = names_append ts us
names_append (digit ∷ ts) us = names_append ts us
names_append (bad ∷ ts) us = names_append ts us

-- their symbols
pub symbols_append : (ts us : List Token) → symbols (ts ++ us) ≡ symbols ts ++ symbols us
symbols_append [] us = refl
symbols_append (symbol k ∷ ts) us = ap (λ ks. k ∷ ks) (symbols_append ts us)
symbols_append (name x ∷ ts) us = symbols_append ts us
symbols_append (opening ∷ ts) us = symbols_append ts us
symbols_append (closing ∷ ts) us = symbols_append ts us
symbols_append (comma ∷ ts) us = symbols_append ts us
symbols_append (equals ∷ ts) us = symbols_append ts us
symbols_append (semicolon ∷ ts) us = symbols_append ts us
symbols_append (profile ∷ ts) us = symbols_append ts us
symbols_append (stray ∷ ts) us = symbols_append ts us
symbols_append (digit ∷ ts) us = symbols_append ts us
symbols_append (bad ∷ ts) us = symbols_append ts us

-- a token that may stand in a text of the grammar
abbrev pub IsGood : Token → Type 0
IsGood bad = ⊥
IsGood _ = Unit {0}

-- a term has no other
good_term : (t : Term) (rest : List Token) → AllByRecursion IsGood rest → AllByRecursion IsGood (spell t rest)
good_term (named x) rest h = (tt, h)
good_term eps rest h = (tt, h)
good_term (fork gamma s t) rest h = (tt, (tt, good_term s (comma ∷ spell t (closing ∷ rest)) (tt, good_term t (closing ∷ rest) (tt, h))))
good_term (fork delta s t) rest h = (tt, (tt, good_term s (comma ∷ spell t (closing ∷ rest)) (tt, good_term t (closing ∷ rest) (tt, h))))

-- nor have equations
good_equations : (es : List Equation) → AllByRecursion IsGood (equation_tokens es)
good_equations [] = tt
good_equations (e ∷ es) = good_term e.left (equals ∷ spell e.right (semicolon ∷ equation_tokens es)) (tt, good_term e.right (semicolon ∷ equation_tokens es) (tt, good_equations es))

-- nor has what says the profile
good_heading : (p : Profile) (ts : List Token) → AllByRecursion IsGood ts → AllByRecursion IsGood (heading p ts)
good_heading Classic ts h = h
good_heading Straight ts h = (tt, (tt, h))

-- nor has a text of the grammar
pub good_text : (p : Profile) (es : List Equation) → AllByRecursion IsGood (text_of p es)
good_text p es = good_heading p (equation_tokens es) (good_equations es)
