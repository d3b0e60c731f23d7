-- Causes and dependents of events with the names at their places.
use Rattle.std.proofs.Common.{◌≡◌, List, map}
use Rattle.std.specs.Prelude.{All}
use Rattle.std.proofs.lemmas.List.Elements.{All-weaker}
use Rattle.ic_path.specs.Orders.{IsIn}
use Rattle.ic_name.specs.Names.{Name}
use Rattle.ic_name.specs.declared.ids.EventId.{EventId}
use Rattle.ic_path.proofs.OnceLists.{each_once_so}
use Rattle.ic_roster.specs.Rosters.{Stander, Stands, DependsOn, AreDependents}
use Rattle.ic_roster.specs.Placed.{PlacedEvent, AreKept, AreUsers, stander_in}
use Rattle.ic_roster.proofs.Images.{each_image}
use Rattle.ic_path.proofs.InLists.{in-map}

-- an event of the list has the id
abbrev HasId : List PlacedEvent → EventId → Type 0
HasId es d = (x : PlacedEvent) × IsIn x es × (x.id ≡ d)

module _ (ns : List Name) (es : List PlacedEvent) where
  -- events that stand do so with their names
  all_stand : (ds : List EventId) → AreKept es ds → All (Stands (map (stander_in ns) es)) ds
  all_stand ds kept = All-weaker (HasId es) (Stands (map (stander_in ns) es)) (λ d x. (stander_in ns x.0, in-map (stander_in ns) x.1, x.2)) ds kept

  -- and without them
  pub all_kept : (ds : List EventId) → All (Stands (map (stander_in ns) es)) ds → AreKept es ds
  all_kept ds stand = All-weaker (Stands (map (stander_in ns) es)) (HasId es) (λ d x. each_image (stander_in ns) es (λ y. y.id ≡ d → HasId es d) (λ z i e. (z, i, e)) x.0 x.1 x.2) ds stand

  -- the causes of each event stand with their names
  pub causes_stand : ((x : PlacedEvent) → IsIn x es → AreKept es x.causes) → (x : Stander) → IsIn x (map (stander_in ns) es) → All (Stands (map (stander_in ns) es)) x.causes
  causes_stand kept = each_image (stander_in ns) es (λ x. All (Stands (map (stander_in ns) es)) x.causes) (λ x i. all_stand x.causes (kept x i))

  -- the events that have an event among their causes are its dependents
  pub users_named : (d : EventId) (fs : List EventId) → AreUsers es d fs → AreDependents (map (stander_in ns) es) d fs
  users_named d fs users = each_once_so (λ f x. (stander_in ns x.0, in-map (stander_in ns) x.1, x.2, x.3)) user users
    where
      user : (f : EventId) → DependsOn (map (stander_in ns) es) d f → (x : PlacedEvent) × IsIn x es × (x.id ≡ f) × IsIn d x.causes
      user f (y, i, e, j) = each_image (stander_in ns) es (λ y. y.id ≡ f → IsIn d y.causes → (x : PlacedEvent) × IsIn x es × (x.id ≡ f) × IsIn d x.causes) (λ x i e j. (x, i, e, j)) y i e j
