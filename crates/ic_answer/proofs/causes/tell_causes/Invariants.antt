use Rattle.std.proofs.Common.{◌++◌, length}
use Rattle.std.specs.Prelude.{codes}
use Rattle.std.specs.Fmt.{decimal}
use Rattle.ic_answer.proofs.CausedEvents.{HasCaused}
use Rattle.ic_answer.proofs.causes.tell_causes.Given as goal

-- the head of the text, and the lines of the events taken
abbrev pub invariant-loop-id : goal.invariant-loop-id
invariant-loop-id g l = HasCaused l.bench l.id-items (codes "causes " ++ decimal (length l.id-items) ++ codes "\n") l.id-index l.text.items
