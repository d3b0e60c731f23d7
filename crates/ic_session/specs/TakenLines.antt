-- Lines taken one by one from an input.
use Rattle.std.specs.Prelude.{◌≡◌, ◌⊎◌, ◌+◌, ◌<◌, ℕ, Bool, true, false, List, [], ◌∷◌, ◌++◌, length, Option, None, Some, IsSomeAnd}
use Rattle.std.specs.Global.{Vec}
use Rattle.ic_name.specs.Events.{Pair}
use Rattle.ic_command.specs.declared.lines.piece.Piece.{Piece}
use Rattle.ic_command.specs.declared.lines.piece.Piece.TheVariants.{Line, TooLong, End}
use Rattle.ic_command.specs.declared.command.TheConstants.{MAX_COMMAND}
use Rattle.ic_command.specs.Listed.{IsListed}
use Rattle.ic_session.specs.InputLines.{TextLine, lines}
use Rattle.ic_session.specs.NextRequest.{AreListed, OneListsNone}
use Rattle.ic_session.specs.declared.listed_events.NextListed.{NextListed}
use Rattle.ic_session.specs.declared.listed_events.NextListed.TheVariants.{Event, Unlisted, Ended}

-- nothing was left
abbrev pub is_end : Piece → Bool
is_end End = true
is_end _ = false

-- the first line was taken, a longer one than a command may be whole; or nothing was left
abbrev pub TakesLine : Piece → List ℕ → List ℕ → Option (List ℕ) → Type 0
TakesLine (Line ended) bytes old new = IsSomeAnd new (λ left. lines old ≡ record { bytes = bytes; ended = ended } ∷ lines left)
TakesLine TooLong bytes old new = IsSomeAnd new (λ left. (long : TextLine) × (lines old ≡ long ∷ lines left) × (MAX_COMMAND + 1 < length long.bytes))
TakesLine End bytes old new = (old ≡ []) × (new ≡ Some [])

-- the first line was taken, with the event that it lists, if it lists one; or nothing was left
abbrev pub TakesNextListed : NextListed → List ℕ → Option (List ℕ) → Type 0
TakesNextListed (Event p) old new = IsSomeAnd new (λ left. (line : TextLine) × (lines old ≡ line ∷ lines left) × IsListed line.bytes p)
TakesNextListed Unlisted old new = IsSomeAnd new (λ left. (line : TextLine) × (lines old ≡ line ∷ lines left) × ((p : Pair) → ¬ (IsListed line.bytes p)))
TakesNextListed Ended old new = (old ≡ []) × (new ≡ Some [])

-- so many lines were taken, with the events that they list, if each lists one; or they are fewer, and none is left
abbrev pub TakesListed : ℕ → Option (Vec Pair) → List ℕ → List ℕ → Type 0
TakesListed count (Some events) old left = (first : List TextLine) × (lines old ≡ first ++ lines left) × (length first ≡ count) × AreListed first events.items
TakesListed count None old left = ((first : List TextLine) × (lines old ≡ first ++ lines left) × (length first ≡ count) × OneListsNone first)
    ⊎ ((length (lines old) < count) × (lines left ≡ []))
