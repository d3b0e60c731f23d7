-- The names of a text, numbered by first occurrence.
use Rattle.std.specs.Prelude.{ℕ, ◌+◌, List, [], ◌∷◌, length, Option, Some, None, unwrap_or, Bool, ◌==◌, ◌&&◌, if◌then◌else◌}
use Rattle.std.specs.Str.{bytes_eq}
use Rattle.ic_text.specs.Texts.{is_reserved}

-- A name that has occurred: where first, and how often so far.
pub record Entry : Type 0 where
  pub text : List ℕ
  pub first : ℕ
  pub times : ℕ

-- one more occurrence of a name
abbrev pub enter : List ℕ → ℕ → List Entry → List Entry
enter x o [] = record { text = x; first = o; times = 1 } ∷ []
enter x o (n ∷ ns) = if bytes_eq x n.text then record n { times = n.times + 1 } ∷ ns else n ∷ enter x o ns

-- one place further
abbrev pub next : Option ℕ → Option ℕ
next None = None
next (Some i) = Some (i + 1)

-- the number of a name, if it has occurred
abbrev pub place : List ℕ → List Entry → Option ℕ
place x [] = None
place x (n ∷ ns) = if bytes_eq x n.text then Some 0 else next (place x ns)

-- the number of a name; the next one where it has not occurred
abbrev pub number : List ℕ → List Entry → ℕ
number x ns = unwrap_or (place x ns) (length ns)

-- how often a name has occurred
abbrev pub times : List ℕ → List Entry → ℕ
times x [] = 0
times x (n ∷ ns) = if bytes_eq x n.text then n.times else times x ns

-- a name that occurs once
abbrev pub is_free : Entry → Bool
is_free n = n.times == 1

-- a name that occurs once and begins with `_`
abbrev pub is_reserved_free : Entry → Bool
is_reserved_free n = is_free n && is_reserved n.text
