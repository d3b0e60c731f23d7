-- When the receipts of all columns are for the lines of a history.
use Rattle.std.specs.Prelude.{◌≡◌, ◌≢◌, ℕ, ◌+◌, ◌<◌, ◌≤◌, List, [], ◌∷◌, length, nat_eq, cond, Some, slice_get, slice_index, take}
use Rattle.ic_name.specs.declared.lines.Line.{Line}
use Rattle.ic_shared.specs.Passes.{Told, IsFor}

-- the lines that are the column's, with their numbers, which go from here on
abbrev pub owned : ℕ → ℕ → List ℕ → List Line → List (ℕ × Line)
owned column number [] lines = []
owned column number (o ∷ owners) [] = []
owned column number (o ∷ owners) (line ∷ lines) =
    cond (nat_eq o column)
    ((number, line) ∷ owned column (number + 1) owners lines)
    (owned column (number + 1) owners lines)

-- the receipts are for these lines, one for each, in their order
abbrev pub AreFor : List (ℕ × Line) → List Told → Type 0
AreFor [] [] = Unit {0}
AreFor [] (x ∷ xs) = ⊥
AreFor (l ∷ ls) [] = ⊥
AreFor (l ∷ ls) (x ∷ xs) = IsFor l.0 l.1 x × AreFor ls xs

-- the receipt at i has this number
abbrev pub NumberAt : List Told → ℕ → ℕ → Type 0
NumberAt told i number = (x : Told) × (slice_get told i ≡ Some x) × (x.number ≡ number)

-- the receipt at i is for the line with this number
abbrev pub Confirms : List Line → List Told → ℕ → ℕ → Type 0
Confirms lines told i number =
    (l : Line) × (x : Told) × (slice_get lines number ≡ Some l) × (slice_get told i ≡ Some x) × IsFor number l x

-- the next receipt of the column b has this number
abbrev pub IsNext : List (List Told) → List ℕ → ℕ → ℕ → Type 0
IsNext columns cursors b number =
    (xs : List Told) × (slice_get columns b ≡ Some xs) × NumberAt xs (slice_index cursors b) number

-- each line has a receipt in one column, the columns have no others, and each has its own in the order of the lines
abbrev pub Settles : ℕ → List Line → List (List Told) → Type 0
Settles base added columns =
    (owners : List ℕ)
    × (length owners ≡ length added)
    × ((b : ℕ) (xs : List Told) → slice_get columns b ≡ Some xs → AreFor (owned b base owners added) xs)
    × ((k : ℕ) → k < length owners → slice_index owners k < length columns)

-- the same of the lines before the j-th and the receipts before the cursors
abbrev pub SettlesTo : ℕ → List Line → List (List Told) → List ℕ → ℕ → Type 0
SettlesTo base added columns cursors j =
    (owners : List ℕ)
    × (length owners ≡ j)
    × ((b : ℕ) (xs : List Told) → slice_get columns b ≡ Some xs
    → (slice_index cursors b ≤ length xs)
    × AreFor (owned b base owners (take j added)) (take (slice_index cursors b) xs))
    × ((k : ℕ) → k < length owners → slice_index owners k < length columns)

-- what the columns say is false at this number
pub data WrongAt (base : ℕ) (lines : List Line) (columns : List (List Told)) (k : ℕ) : Type 0 where
  -- a receipt isn't for the line
  differs : (b : ℕ) (xs : List Told) (i : ℕ) → slice_get columns b ≡ Some xs → NumberAt xs i k
      → ¬ Confirms lines xs i k → WrongAt base lines columns k
  -- a receipt is for a line from before the first one
  early : (b : ℕ) (xs : List Told) (i : ℕ) → slice_get columns b ≡ Some xs → NumberAt xs i k
      → k < base → WrongAt base lines columns k
  -- two receipts have the number
  twice : (b : ℕ) (xs : List Told) (i : ℕ) (c : ℕ) (ys : List Told) (j : ℕ)
      → slice_get columns b ≡ Some xs → NumberAt xs i k → slice_get columns c ≡ Some ys → NumberAt ys j k
      → (b ≡ c → i ≢ j) → WrongAt base lines columns k
  -- no receipt for the line stands in the order of its column: each has one with a greater number before it
  unclaimed : base ≤ k → k < length lines
      → ((b : ℕ) (xs : List Told) (i : ℕ) → slice_get columns b ≡ Some xs → NumberAt xs i k
      → (j : ℕ) × (n : ℕ) × (j < i) × (k < n) × NumberAt xs j n)
      → WrongAt base lines columns k
