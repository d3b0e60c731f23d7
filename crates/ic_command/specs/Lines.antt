-- Bytes cut in lines at line feeds.
use Rattle.std.specs.Prelude.{◌≡◌, ℕ, ◌<◌, ◌==◌, Bool, true, false, not, List, [], ◌∷◌, ◌++◌, length, Option, Some, IsSomeAnd, MatchBool, ◌+◌, if◌then◌else◌}
use Rattle.std.specs.Io.BufRead.{drop_through}
use Rattle.std.specs.Io.KnownBytes.{Consumes, IsAtEnd}
use Rattle.ic_command.specs.declared.lines.piece.Piece.{Piece}
use Rattle.ic_command.specs.declared.lines.piece.Piece.TheVariants.{Line, TooLong, End}
use Rattle.ic_command.specs.declared.lines.piece.Front.{Front}
use Rattle.ic_command.specs.declared.lines.piece.Front.TheVariants as fronts

-- no line feed
abbrev pub goes_on : ℕ → Bool
goes_on x = not (x == 10)

-- the bytes in front of the first line feed, or all
abbrev pub first_line : List ℕ → List ℕ
first_line [] = []
first_line (x ∷ xs) = if x == 10 then [] else x ∷ first_line xs

-- there is a line feed
abbrev pub has_feed : List ℕ → Bool
has_feed [] = false
has_feed (x ∷ xs) = if x == 10 then true else has_feed xs

-- the bytes behind the first line feed
abbrev pub behind_line : List ℕ → List ℕ
behind_line xs = drop_through 10 xs

-- a buffer was filled from what a reader had left: with some bytes, or at the end with none
abbrev pub Fills : Bool → List ℕ → Option (List ℕ) → Option (List ℕ) → Type 0
Fills more bytes old new = Consumes old new bytes × MatchBool more (0 < length bytes) ((bytes ≡ []) × IsAtEnd new)

-- a line was taken
abbrev pub is_line : Piece → Bool
is_line (Line ended) = true
is_line _ = false

-- what was taken from the bytes that were left: a whole line of at most so many bytes; a part of a longer line, with
-- the rest of it still there; or nothing, at the end
abbrev pub Takes : Piece → List ℕ → ℕ → List ℕ → Option (List ℕ) → Type 0
Takes (Line ended) line most old new = (line ≡ first_line old) × (ended ≡ has_feed old) × (new ≡ Some (behind_line old))
Takes TooLong line most old new = (most < length (first_line old)) × IsSomeAnd new (λ left. behind_line left ≡ behind_line old)
Takes End line most old new = (old ≡ []) × (new ≡ Some [])

-- what was taken from the front of buffered bytes: all up to a line feed, which goes too; all, where there is none; or
-- nothing, where the line would be too long
abbrev pub TakesFront : Front → List ℕ → List ℕ → List ℕ → List ℕ → ℕ → Type 0
TakesFront fronts.Whole bytes rest line longer most = (has_feed bytes ≡ true) × (longer ≡ line ++ first_line bytes) × (rest ≡ behind_line bytes)
TakesFront fronts.Part bytes rest line longer most = (has_feed bytes ≡ false) × (longer ≡ line ++ bytes) × (rest ≡ [])
TakesFront fronts.TooLong bytes rest line longer most = (longer ≡ line) × (rest ≡ bytes) × (most < length line + length (first_line bytes))
