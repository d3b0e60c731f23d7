-- The line of a net text that is refused.
use Rattle.std.specs.Prelude.{ℕ, List, [], ◌++◌, codes, Option, None, Some}
use Rattle.std.specs.Fmt.{decimal}
use Rattle.ic_text.specs.declared.grammar.refusal.Refusal.{Refusal}
use Rattle.ic_text.specs.Faults.{code, offset}

-- where a fault stands, if it stands at a byte
abbrev pub place_text : Option ℕ → List ℕ
place_text None = []
place_text (Some o) = codes " at " ++ decimal o

-- the answer to a net text that is refused
abbrev pub refusal_line : Refusal → List ℕ
refusal_line f = codes "refused " ++ decimal (code f) ++ place_text (offset f) ++ codes "\n"
