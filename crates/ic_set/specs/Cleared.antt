-- All events taken out at once.
use Rattle.std.specs.Prelude.{◌≡◌, List, []}
use Rattle.ic_name.specs.declared.ids.EventId.{EventId}
use Rattle.ic_path.specs.Orders.{IsIn}
use Rattle.ic_roster.specs.Rosters.{Member, Stander}
use Rattle.ic_set.specs.Removal.{Stands}
use Rattle.ic_set.specs.Views.{SetView}

-- the ids are those of all standing events
pub record AreAll (v : SetView) (ids : List EventId) : Type 0 where
  pub stand : (d : EventId) → IsIn d ids → Stands v d
  pub each : (x : Stander) → IsIn x v.events → IsIn x.id ids

-- no event stands any more, and who is there was there before
pub record Clears (old new : SetView) : Type 0 where
  pub start : new.start ≡ old.start
  pub events : new.events ≡ []
  pub agents : (m : Member) → IsIn m new.agents → IsIn m old.agents
