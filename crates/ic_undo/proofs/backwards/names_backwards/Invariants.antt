use Rattle.std.proofs.Common.{◌≡◌, List, map, reverse, drop}
use Rattle.ic_name.specs.Events.{pair}
use Rattle.ic_path.specs.Orders.{IsIn}
use Rattle.ic_roster.specs.Rosters.{Stander}
use Rattle.ic_undo.proofs.backwards.names_backwards.Given as goal

abbrev pub invariant-loop-place : goal.invariant-loop-place
invariant-loop-place g l = (order : List Stander) → ((x : Stander) → IsIn x order → IsIn x l.bench.events) → map (λ x. x.id) order ≡ l.ids → map (λ x. pair x.event) (reverse (drop l.place order)) ≡ l.names.items
