use Rattle.std.proofs.Common.{◌≡◌, ◌++◌, [], codes, length, take}
use Rattle.std.specs.Fmt.{decimal}
use Rattle.std.specs.List.{flat_map}
use Rattle.ic_answer.specs.Texts.{pair_line}
use Rattle.ic_answer.proofs.unwinding.unwound_text.Given as goal

-- the lines of the names taken
abbrev pub invariant-loop-name : goal.invariant-loop-name
invariant-loop-name l = l.text.items ≡ (codes "unwound " ++ decimal (length l.names) ++ codes "\n") ++ flat_map (pair_line []) (take l.name-index l.names)
