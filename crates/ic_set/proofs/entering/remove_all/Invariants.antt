use Rattle.std.proofs.Common.{◌≡◌, ◌++◌, List, map, drop}
use Rattle.ic_path.specs.Orders.{Alike}
use Rattle.ic_roster.specs.Rosters.{Member}
use Rattle.ic_set.proofs.entering.remove_all.Given as goal

abbrev pub invariant-loop-id : goal.invariant-loop-id
invariant-loop-id l = record {
  left : (gone left : List Member) → map (λ m. m.id) gone ≡ l.ids → Alike l.initial.roster.agents (gone ++ left) → (more : List Member) × (map (λ m. m.id) more ≡ drop l.id-index l.ids) × Alike l.roster.agents (more ++ left);
  names : l.roster.names ≡ l.initial.roster.names;
  events : l.roster.events ≡ l.initial.roster.events;
}
