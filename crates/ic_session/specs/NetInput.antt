-- What reading the net text of a session gives.
use Rattle.std.specs.Prelude.{◌≡◌, ℕ, ◌<◌, ◌≤◌, Bool, false, List, length, Option, IsSomeAnd}
use Rattle.ic_text.specs.declared.grammar.limits.TheConstants.{MAX_TEXT}
use Rattle.ic_session.specs.declared.net_input.NetInput.{NetInput}
use Rattle.ic_session.specs.declared.net_input.NetInput.TheVariants.{Whole, TooLong}
use Rattle.ic_session.specs.InputLines.{lines, net_part, has_bar, command_lines}

-- the net text was read, and whether a bar ends it, and the commands are left; or it is too long
abbrev pub ReadsNet : NetInput → List ℕ → Option (List ℕ) → Type 0
ReadsNet (Whole text barred) input left = (text.items ≡ net_part (lines input)) × IsSomeAnd left (λ rest. lines rest ≡ command_lines (lines input)) × (barred ≡ has_bar (lines input))
ReadsNet TooLong input left = MAX_TEXT < length (net_part (lines input))

-- a bar was read
abbrev pub has_read_bar : NetInput → Bool
has_read_bar (Whole text barred) = barred
has_read_bar TooLong = false

-- a whole net text isn't longer than one may be
abbrev pub IsShort : NetInput → Type 0
IsShort (Whole text barred) = length text.items ≤ MAX_TEXT
IsShort TooLong = Unit {0}
