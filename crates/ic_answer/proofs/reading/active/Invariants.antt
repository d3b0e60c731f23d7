use Rattle.std.proofs.Common.{◌++◌, length}
use Rattle.std.specs.Prelude.{codes}
use Rattle.std.specs.Fmt.{decimal}
use Rattle.ic_name.specs.Events.{Event}
use Rattle.ic_set.specs.declared.pairs.ActivePair.{ActivePair}
use Rattle.ic_set.specs.Pairs.{IsPairOf}
use Rattle.ic_journal.specs.Views.{set_of}
use Rattle.ic_answer.specs.Texts.{event_line}
use Rattle.ic_answer.proofs.ListedLines.{HasLines}
use Rattle.ic_answer.proofs.reading.active.Given as goal

-- the head of the text, and the lines of the pairs taken
abbrev pub invariant-loop-pair : goal.invariant-loop-pair
invariant-loop-pair g l =
    HasLines (λ (x : Event × ActivePair). x.1) (λ x. event_line x.0) (λ x. IsPairOf (set_of l.bench) x.0 x.1) l.pair-items
    (codes "active " ++ decimal (length l.pair-items) ++ codes "\n") l.pair-index l.text.items
