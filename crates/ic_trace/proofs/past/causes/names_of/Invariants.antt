use Rattle.std.proofs.Common.{◌≡◌, List, map, take}
use Rattle.ic_name.specs.Events.{pair}
use Rattle.ic_path.specs.Orders.{IsIn}
use Rattle.ic_roster.specs.Rosters.{Stander}
use Rattle.ic_trace.proofs.past.causes.names_of.Given as goal

-- the names so far are those of standing events under the ids so far
abbrev pub invariant-loop-id : goal.invariant-loop-id
invariant-loop-id l =
    (xs : List Stander) × ((x : Stander) → IsIn x xs → IsIn x l.roster.events) × (map (λ x. x.id) xs ≡ take l.id-index l.ids) × (map (λ x. pair x.event) xs ≡ l.names.items)
