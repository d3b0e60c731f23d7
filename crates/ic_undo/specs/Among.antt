-- The differences from a mark, found by the names of agents that lead some events.
use Rattle.std.specs.Prelude.{◌≡◌, ℕ, List, Some, map, slice_get}
use Rattle.ic_name.specs.Names.{Name}
use Rattle.ic_name.specs.Events.{Event}
use Rattle.ic_name.specs.declared.ids.EventId.{EventId}
use Rattle.ic_names.specs.Tables.{name_at}
use Rattle.ic_names.specs.declared.table.NameId.{NameId}
use Rattle.ic_path.specs.Orders.{IsIn}
use Rattle.ic_roster.specs.Rosters.{Stander}
use Rattle.ic_journal.specs.Views.{BenchView}
use Rattle.ic_undo.specs.GoingBack.{IsOutside, IsMissing}
use Rattle.ic_undo.specs.Marks.{MarkView}

-- the names at these places
abbrev pub names_at : List Name → List NameId → List Name
names_at ns places = map (λ (a : NameId). name_at ns a.place) places

-- the ids of the standing events that one of these agents leads and that aren't in the mark are there, and all ids are
-- those of standing events that aren't in the mark
pub record AreOutsideIds (v : BenchView) (m : MarkView) (leads : List Name) (ids : List EventId) : Type 0 where
  pub each : (x : Stander) → IsIn x v.events → IsOutside m x → IsIn x.event.lead leads → IsIn x.id ids
  pub only : (d : EventId) → IsIn d ids → (x : Stander) × IsIn x v.events × IsOutside m x × (x.id ≡ d)

-- the places of the missing events that one of these agents leads are there, and all places are those of missing events
pub record AreMissingPlaces (v : BenchView) (m : MarkView) (leads : List Name) (places : List ℕ) : Type 0 where
  pub each : (e : Event) → IsMissing v m e → IsIn e.lead leads → (p : ℕ) × IsIn p places × (slice_get m.events p ≡ Some e)
  pub only : (p : ℕ) → IsIn p places → (e : Event) × (slice_get m.events p ≡ Some e) × IsMissing v m e
