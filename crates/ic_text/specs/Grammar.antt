-- The grammar of texts, and the start that a text denotes.
use Rattle.std.specs.Prelude.{◌≡◌, ℕ, ◌+◌, ◌≤◌, false, List, [], ◌∷◌, map, if◌then◌else◌, count_by}
use Rattle.std.specs.List.{fold, position_or_len}
use Rattle.std.specs.Str.{bytes_eq}
use Rattle.ic_name.specs.declared.kinds.Kind.{Kind}
use Rattle.ic_name.specs.declared.kinds.Kind.TheVariants.{Gamma, Delta, Eps}
use Rattle.ic_name.specs.declared.ports.Port.{Port}
use Rattle.ic_name.specs.declared.ports.Port.TheVariants as ports
use Rattle.ic_name.specs.declared.rules.Profile.{Profile}
use Rattle.ic_name.specs.declared.rules.Profile.TheVariants.{Classic, Straight}
use Rattle.ic_name.specs.Names.{start_name}
use Rattle.ic_theory.specs.Starts.{Start}
use Rattle.ic_text.specs.Texts.{is_reserved}
use Rattle.ic_text.specs.Tokens.{Token, symbol, name, opening, closing, comma, equals, semicolon, profile, items, between}

-- the symbols that have arguments
pub data Fork : Type 0 where
  gamma : Fork
  delta : Fork

-- the kind of such a symbol
abbrev pub kind_of : Fork → Kind
kind_of gamma = Gamma
kind_of delta = Delta

-- a term: a name, the symbol without arguments, or a symbol with two
pub data Term : Type 0 where
  named : List ℕ → Term
  eps : Term
  fork : Fork → Term → Term → Term

-- two terms whose roots are linked
pub record Equation : Type 0 where
  pub left : Term
  pub right : Term

-- the tokens of a term, and what follows them
abbrev pub spell : Term → List Token → List Token
spell (named x) rest = name x ∷ rest
spell eps rest = symbol Eps ∷ rest
spell (fork f s t) rest = symbol (kind_of f) ∷ opening ∷ spell s (comma ∷ spell t (closing ∷ rest))

-- the tokens of equations
abbrev pub equation_tokens : List Equation → List Token
equation_tokens [] = []
equation_tokens (e ∷ es) = spell e.left (equals ∷ spell e.right (semicolon ∷ equation_tokens es))

-- the tokens that say the profile, and what follows them
abbrev pub heading : Profile → List Token → List Token
heading Classic ts = ts
heading Straight ts = profile ∷ semicolon ∷ ts

-- the tokens of a text: its profile, and then its equations
abbrev pub text_of : Profile → List Equation → List Token
text_of p es = heading p (equation_tokens es)

-- the kinds of the symbols among tokens, from left to right
abbrev pub symbols : List Token → List Kind
symbols [] = []
symbols (symbol k ∷ ts) = k ∷ symbols ts
symbols (_ ∷ ts) = symbols ts

-- the names among tokens, from left to right
abbrev pub names : List Token → List (List ℕ)
names [] = []
names (name x ∷ ts) = x ∷ names ts
names (_ ∷ ts) = names ts

-- a name behind those that are there, unless it is one of them
abbrev pub add : List ℕ → List (List ℕ) → List (List ℕ)
add x [] = x ∷ []
add x (y ∷ ys) = if bytes_eq x y then y ∷ ys else y ∷ add x ys

-- the names in order of first occurrence
abbrev pub distinct : List (List ℕ) → List (List ℕ)
distinct xs = fold (λ ys x. add x ys) [] xs

-- a port of the start agent with the number n
abbrev pub port_of : ℕ → ℕ → Port
port_of n i = ports.Of (start_name n) i

-- the root of a term whose first symbol has the number n; N numbers the names
abbrev pub root : (List ℕ → ℕ) → ℕ → Term → Port
root N n (named x) = ports.Name (N x)
root N n eps = port_of n 0
root N n (fork f s t) = port_of n 0

-- the number of the next symbol behind a term
abbrev pub behind : Term → ℕ → ℕ
behind (named x) n = n
behind eps n = n + 1
behind (fork f s t) n = behind t (behind s (n + 1))

-- the links of the arguments in a term, and what follows them
abbrev pub links : (List ℕ → ℕ) → ℕ → Term → List (Port × Port) → List (Port × Port)
links N n (named x) rest = rest
links N n eps rest = rest
links N n (fork f s t) rest =
    (port_of n 1, root N (n + 1) s) ∷ links N (n + 1) s ((port_of n 2, root N (behind s (n + 1)) t) ∷ links N (behind s (n + 1)) t rest)

-- the links of equations, by the order of their terms' first bytes
abbrev pub text_links : (List ℕ → ℕ) → ℕ → List Equation → List (Port × Port)
text_links N n [] = []
text_links N n (e ∷ es) =
    links N n e.left ((root N n e.left, root N (behind e.left n) e.right) ∷ links N (behind e.left n) e.right (text_links N (behind e.right (behind e.left n)) es))

-- The start of a profile and equations: the kinds of the symbols, the links, the names by number, and the profile.
abbrev pub start_of : Profile → List Equation → Start
start_of p es =
    let ts = equation_tokens es in
    let xs = distinct (names ts) in
    record { kinds = symbols ts; joins = text_links (λ x. position_or_len (bytes_eq x) xs) 0 es; names = xs; profile = p }

-- how often a name occurs
abbrev pub occurs : List ℕ → List (List ℕ) → ℕ
occurs x xs = count_by (bytes_eq x) xs

-- a name occurs once or twice, and one that begins with `_` doesn't occur once
pub record AreNames (xs : List (List ℕ)) : Type 0 where
  pub twice : (x : List ℕ) → occurs x xs ≤ 2
  pub joints : (x : List ℕ) → occurs x xs ≡ 1 → is_reserved x ≡ false

-- the tokens of a text
abbrev pub tokens : List ℕ → List Token
tokens text = map (λ i. i.token) (items between 0 text)

-- The text denotes the start.
pub record Denotes (text : List ℕ) (s : Start) : Type 0 where
  pub profile : Profile
  pub equations : List Equation
  pub grammar : tokens text ≡ text_of profile equations
  pub allowed : AreNames (names (tokens text))
  pub start : s ≡ start_of profile equations
