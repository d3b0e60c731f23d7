-- How a session echoes the lines that it answers.
use Rattle.std.specs.Prelude.{◌≡◌, ◌&&◌, not, nat_le, ℕ, Bool, true, List, [], ◌∷◌, ◌++◌, length, codes, Option, if◌then◌else◌}
use Rattle.std.specs.List.{list_all}
use Rattle.std.specs.Io.BufRead.{strip_last}
use Rattle.std.specs.Io.KnownBytes.{Appends}
use Rattle.ic_command.specs.Commands.{is_comment, is_plain}
use Rattle.ic_command.specs.Words.{words}
use Rattle.ic_command.specs.declared.command.TheConstants.{MAX_COMMAND}
use Rattle.ic_session.specs.declared.mode.Mode.{Mode}
use Rattle.ic_session.specs.declared.next_demand.NextDemand.{NextDemand}
use Rattle.ic_session.specs.declared.next_demand.NextDemand.TheVariants as next
use Rattle.ic_session.specs.InputLines.{TextLine, lines}

-- there are no words, or they are a comment
abbrev pub say_nothing : List (List ℕ) → Bool
say_nothing [] = true
say_nothing (w ∷ ws) = is_comment w

-- the line gets no answer
abbrev pub is_unanswered : List ℕ → Bool
is_unanswered line = say_nothing (words line) && list_all is_plain line

-- the line isn't too long, and gets an answer
abbrev pub is_echoed : List ℕ → Bool
is_echoed line = nat_le (length line) MAX_COMMAND && not (is_unanswered line)

-- the echo of a line; a carriage return at its end goes first
abbrev pub echo_of : List ℕ → List ℕ
echo_of line = if is_echoed (strip_last 13 line) then codes "> " ++ strip_last 13 line ++ codes "\n" else []

-- that of the first of these lines
abbrev pub first_echo : List TextLine → List ℕ
first_echo [] = []
first_echo (line ∷ ls) = echo_of line.bytes

-- what a session writes before the answer to a line
abbrev pub echo_in : Mode → List ℕ → List ℕ
echo_in m line = if m.echoes then echo_of line else []

-- what it writes before the answer to the first of these lines
abbrev pub echoed : Mode → List TextLine → List ℕ
echoed m ls = if m.echoes then first_echo ls else []

-- the echo of the line of a demand was written, or nothing where there is no demand
abbrev pub WritesEcho : Mode → NextDemand → List ℕ → Option (List ℕ) → Option (List ℕ) → Type 0
WritesEcho m (next.Demand d) input before after = Appends before after (echoed m (lines input))
WritesEcho m next.Renewal input before after = after ≡ before
WritesEcho m next.Done input before after = after ≡ before
