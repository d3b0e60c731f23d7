use Rattle.ic_path.specs.Orders.{IsIn}
use Rattle.ic_roster.specs.Rosters.{Stander}
use Rattle.ic_answer.specs.Caused.{cause_word}
use Rattle.ic_answer.proofs.ListedLines.{HasLines}
use Rattle.ic_answer.proofs.causes.push_causes.Given as goal

-- the names of the causes taken
abbrev pub invariant-loop-id : goal.invariant-loop-id
invariant-loop-id g l = HasLines (λ (x : Stander). x.id) (λ x. cause_word x.event) (λ x. IsIn x l.bench.events) l.causes l.fn.text.items l.id-index l.text.items
