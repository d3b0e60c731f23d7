use Rattle.std.proofs.Common.{◌≡◌, ◌++◌, List, length, IfSome, IfNone}
use Rattle.ic_name.specs.declared.ids.EventId.{EventId}
use Rattle.ic_path.specs.Orders.{IsIn}
use Rattle.ic_set.specs.Removal.{IsLeastOf}
use Rattle.ic_set.proofs.removal.least_of.Given as goal

abbrev pub invariant-loop-id : goal.invariant-loop-id
invariant-loop-id l = (done : List EventId) × (done ++ l.left ≡ l.fn.ids) × IfSome l.least (λ least. IsLeastOf l.roster.events done least) × IfNone l.least ((d : EventId) → IsIn d done → ⊥)

abbrev pub decreases-loop-id : goal.decreases-loop-id
decreases-loop-id l = length l.left
