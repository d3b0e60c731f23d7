-- The lines of a history, in words.
use Rattle.std.specs.Prelude.{ℕ, ◌+◌, List, [], ◌∷◌, ◌++◌, length, codes}
use Rattle.std.specs.Fmt.{decimal}
use Rattle.ic_name.specs.Events.{pair}
use Rattle.ic_name.specs.declared.lines.Call.{Call}
use Rattle.ic_name.specs.declared.lines.Call.TheVariants.{Fire, Undo}
use Rattle.ic_name.specs.declared.lines.Reply.{Reply}
use Rattle.ic_name.specs.declared.lines.Reply.TheVariants.{Fired, NotActive, Deep, Full, Undone, NotStanding, Held}
use Rattle.ic_name.specs.declared.lines.Line.{Line}
use Rattle.ic_name.specs.NameTexts.{pair_text}

-- a call; an undo names the line of its event's firing
abbrev pub call_text : Call → List ℕ
call_text (Fire e) = codes "fire " ++ pair_text (pair e)
call_text (Undo l) = codes "undo line " ++ decimal l

-- what was answered
abbrev pub reply_text : Reply → List ℕ
reply_text Fired = codes "fired"
reply_text NotActive = codes "not active"
reply_text Deep = codes "deep"
reply_text Full = codes "full"
reply_text Undone = codes "undone"
reply_text NotStanding = codes "not standing"
reply_text (Held l) = codes "held by line " ++ decimal l

-- a line of the history behind its number
abbrev pub line_text : ℕ → Line → List ℕ
line_text n x = decimal n ++ codes " " ++ call_text x.call ++ codes ": " ++ reply_text x.reply ++ codes "\n"

-- the lines, numbered from n on
abbrev pub numbered_lines : ℕ → List Line → List ℕ
numbered_lines n [] = []
numbered_lines n (x ∷ xs) = line_text n x ++ numbered_lines (n + 1) xs

-- how many lines there are, and which
abbrev pub history_text : List Line → List ℕ
history_text xs = codes "history " ++ decimal (length xs) ++ codes "\n" ++ numbered_lines 0 xs
