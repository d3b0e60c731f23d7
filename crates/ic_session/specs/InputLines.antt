-- The lines of a session: its net text, and its commands.
use Rattle.std.specs.Prelude.{ℕ, ◌==◌, ◌||◌, Bool, true, false, List, [], ◌∷◌, ◌++◌, codes, if◌then◌else◌}
use Rattle.std.specs.Str.{bytes_eq}

-- a line without its line feed, and whether it had one
pub record TextLine : Type 0 where
  pub bytes : List ℕ
  pub ended : Bool

-- the line that the bytes so far make at the end of the input, if there are any
abbrev pub last_line : List ℕ → List TextLine
last_line [] = []
last_line (b ∷ bs) = record { bytes = b ∷ bs; ended = false } ∷ []

-- the lines of what is left, of whose first line some bytes have come
abbrev pub lines_after : List ℕ → List ℕ → List TextLine
lines_after front [] = last_line front
lines_after front (x ∷ xs) = if x == 10 then record { bytes = front; ended = true } ∷ lines_after [] xs else lines_after (front ++ x ∷ []) xs

-- the lines of an input, cut at line feeds; the last one may lack its own
abbrev pub lines : List ℕ → List TextLine
lines xs = lines_after [] xs

-- the line between the net and the commands
abbrev pub is_bar : List ℕ → Bool
is_bar line = bytes_eq line (codes "---") || bytes_eq line (codes "---\r")

-- a line as it stood in the input
abbrev pub whole_line : TextLine → List ℕ
whole_line l = if l.ended then l.bytes ++ 10 ∷ [] else l.bytes

-- the net text: all in front of the bar, or all
abbrev pub net_part : List TextLine → List ℕ
net_part [] = []
net_part (l ∷ ls) = if is_bar l.bytes then [] else whole_line l ++ net_part ls

-- whether a bar ends the net text
abbrev pub has_bar : List TextLine → Bool
has_bar [] = false
has_bar (l ∷ ls) = if is_bar l.bytes then true else has_bar ls

-- the commands: the lines behind the bar, or none
abbrev pub command_lines : List TextLine → List TextLine
command_lines [] = []
command_lines (l ∷ ls) = if is_bar l.bytes then ls else command_lines ls
