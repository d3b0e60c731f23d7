use Rattle.ic_path.specs.Orders.{IsIn}
use Rattle.ic_roster.specs.Rosters.{Stander}
use Rattle.ic_answer.specs.Texts.{event_line}
use Rattle.ic_answer.proofs.ListedLines.{HasLines}
use Rattle.ic_answer.proofs.why.push_events.Given as goal

-- the lines of the events taken
abbrev pub invariant-loop-id : goal.invariant-loop-id
invariant-loop-id g l = HasLines (λ (x : Stander). x.id) (λ x. event_line x.event) (λ x. IsIn x l.bench.events) l.events l.fn.text.items l.id-index l.text.items
