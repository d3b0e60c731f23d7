use Rattle.std.proofs.Common.{◌≡◌, ◌++◌, map, length, take}
use Rattle.std.specs.Prelude.{codes}
use Rattle.std.specs.Fmt.{decimal}
use Rattle.std.specs.List.{flat_map}
use Rattle.ic_desk.specs.Questions.{mark_line}
use Rattle.ic_desk.specs.Views.{note_of}
use Rattle.ic_desk.proofs.telling.marks_text.Given as goal

-- the lines of the marks before this one are there
abbrev pub invariant-loop-mark : goal.invariant-loop-mark
invariant-loop-mark l = l.text.items ≡ (codes "marks " ++ decimal (length l.fn.marks) ++ codes "\n") ++ flat_map mark_line (map note_of (take l.mark-index l.marks))
