-- What is wrong with a text, and where.
use Rattle.std.specs.Prelude.{◌≡◌, ℕ, ◌-◌, ◌≤◌, ◌<◌, ◌==◌, Bool, true, false, List, [], ◌∷◌, ◌++◌, length, map, count_by, ◌⊎◌, Option, Some, None, unwrap_or}
use Rattle.ic_name.specs.declared.kinds.Kind.{Kind}
use Rattle.ic_name.specs.declared.kinds.Kind.TheVariants.{Gamma, Delta}
use Rattle.ic_name.specs.declared.rules.Profile.{Profile}
use Rattle.ic_text.specs.declared.grammar.refusal.Refusal.{Refusal}
use Rattle.ic_text.specs.declared.grammar.refusal.Refusal.TheVariants.{TooLong, BadByte, Syntax, NameTooLong, Thrice, TooManyAgents, TooNested, ReservedFree, TooManyFree}
use Rattle.ic_name.specs.declared.limits.TheConstants.{MAX_START_AGENTS}
use Rattle.ic_text.specs.declared.grammar.limits.TheConstants.{MAX_TEXT, MAX_FREE_NAMES, MAX_NAME, MAX_NESTING}
use Rattle.ic_text.specs.Tokens.{Token, symbol, name, closing, bad, Item, items, between}
use Rattle.ic_text.specs.Texts.{is_reserved}
use Rattle.ic_text.specs.Grammar.{Equation, text_of, tokens, symbols, names, distinct, occurs}

-- A token of the text at an offset, and the tokens in front of it.
pub record At (text : List ℕ) (front : List Token) (o : ℕ) (t : Token) : Type 0 where
  pub before : List Item
  pub rest : List Item
  pub parts : items between 0 text ≡ before ++ record { at = o; token = t } ∷ rest
  pub front_is : map (λ i. i.token) before ≡ front

-- A text of the grammar can begin with the tokens.
pub record IsFront (ts : List Token) : Type 0 where
  pub profile : Profile
  pub equations : List Equation
  pub rest : List Token
  pub parts : text_of profile equations ≡ ts ++ rest

-- a symbol with arguments
abbrev pub is_fork : Token → Bool
is_fork (symbol Gamma) = true
is_fork (symbol Delta) = true
is_fork _ = false

-- the mark that ends a symbol's arguments
abbrev pub is_closing : Token → Bool
is_closing closing = true
is_closing _ = false

-- how many symbols have arguments that are not yet ended
abbrev pub depth : List Token → ℕ
depth ts = count_by is_fork ts - count_by is_closing ts

-- The fault stands in the text.
abbrev pub Stands : List ℕ → Refusal → Type 0
Stands text TooLong = MAX_TEXT < length text
Stands text (BadByte o) = (front : List Token) × At text front o bad
Stands text (Syntax o) =
    ((front : List Token) × (t : Token) × At text front o t × (IsFront (front ++ t ∷ []) → ⊥))
    ⊎ ((o ≡ length text) × ((p : Profile) (es : List Equation) → tokens text ≡ text_of p es → ⊥))
Stands text (NameTooLong o) = (front : List Token) × (x : List ℕ) × At text front o (name x) × (MAX_NAME < length x)
Stands text (Thrice o) = (front : List Token) × (x : List ℕ) × At text front o (name x) × (2 ≤ occurs x (names front))
Stands text (TooManyAgents o) = (front : List Token) × (k : Kind) × At text front o (symbol k) × (MAX_START_AGENTS ≤ length (symbols front))
Stands text (TooNested o) = (front : List Token) × (k : Kind) × At text front o (symbol k) × (MAX_NESTING ≤ depth front)
Stands text (ReservedFree o) =
    (front : List Token) × (x : List ℕ) × At text front o (name x) × (is_reserved x ≡ true) × (occurs x (names (tokens text)) ≡ 1)
Stands text TooManyFree = MAX_FREE_NAMES < count_by (λ x. occurs x (names (tokens text)) == 1) (distinct (names (tokens text)))

-- a text that is too long goes before all; then what stands at a token goes by offset and then by number, then
-- reserved names go by offset, and too many free names come last
abbrev pub class : Refusal → ℕ
class TooLong = 0
class (ReservedFree o) = 2
class TooManyFree = 3
class _ = 1

-- the byte at which a fault stands, if it stands at one
abbrev pub offset : Refusal → Option ℕ
offset TooLong = None
offset (BadByte o) = Some o
offset (Syntax o) = Some o
offset (NameTooLong o) = Some o
offset (Thrice o) = Some o
offset (TooManyAgents o) = Some o
offset (TooNested o) = Some o
offset (ReservedFree o) = Some o
offset TooManyFree = None

-- the same, 0 where it stands at none
abbrev pub place : Refusal → ℕ
place f = unwrap_or (offset f) 0

-- the number of a fault
abbrev pub code : Refusal → ℕ
code TooLong = 1
code (BadByte o) = 2
code (Syntax o) = 3
code (NameTooLong o) = 4
code (Thrice o) = 5
code (TooManyAgents o) = 6
code (TooNested o) = 7
code (ReservedFree o) = 8
code TooManyFree = 9

-- a fault is the other, or is answered rather than it
abbrev pub Precedes : Refusal → Refusal → Type 0
Precedes f g = (class f < class g) ⊎ ((class f ≡ class g) × ((place f < place g) ⊎ ((place f ≡ place g) × (code f ≤ code g))))

-- The fault that is answered: it stands, and goes before every fault that stands.
pub record IsFirstFault (text : List ℕ) (f : Refusal) : Type 0 where
  pub stands : Stands text f
  pub first : (g : Refusal) → Stands text g → Precedes f g
