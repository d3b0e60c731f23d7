-- The events that lines of a history changed.
use Rattle.std.specs.Prelude.{◌≡◌, ℕ, ◌<◌, ◌≤◌, ◌⊎◌, ◌↔◌, List, length, map, All, Option, Some, option_map, slice_get}
use Rattle.ic_name.specs.Names.{Name}
use Rattle.ic_name.specs.Events.{Event}
use Rattle.ic_name.specs.declared.lines.Call.TheVariants.{Fire, Undo}
use Rattle.ic_name.specs.declared.lines.Reply.TheVariants.{Fired, Undone}
use Rattle.ic_name.specs.declared.lines.Line.{Line}
use Rattle.ic_names.specs.Tables.{name_at}
use Rattle.ic_names.specs.declared.table.NameId.{NameId}
use Rattle.ic_path.specs.Orders.{IsIn}

-- the line at this place fired the event
abbrev pub IsFiredIn : List Line → ℕ → Event → Type 0
IsFiredIn lines k e = slice_get lines k ≡ Some (record { call = Fire e; reply = Fired })

-- the line at this place undid the event: it names the line that fired it
abbrev pub IsUndoneIn : List Line → ℕ → Event → Type 0
IsUndoneIn lines k e = (l : ℕ) × (slice_get lines k ≡ Some (record { call = Undo l; reply = Undone })) × IsFiredIn lines l e

-- the line at this place fired or undid the event
abbrev pub IsChangedIn : List Line → ℕ → Event → Type 0
IsChangedIn lines k e = IsFiredIn lines k e ⊎ IsUndoneIn lines k e

-- a line from this one on fired or undid the event
abbrev pub IsChanged : List Line → ℕ → Event → Type 0
IsChanged lines n e = (k : ℕ) × (n ≤ k) × IsChangedIn lines k e

-- the agent of this name leads an event that the line at this place fired
abbrev pub IsLeadFiredIn : List Line → ℕ → Name → Type 0
IsLeadFiredIn lines k n = (e : Event) × IsFiredIn lines k e × (e.lead ≡ n)

-- the agent of this name leads an event that the line at this place fired or undid
abbrev pub IsLeadChangedIn : List Line → ℕ → Name → Type 0
IsLeadChangedIn lines k n = (e : Event) × IsChangedIn lines k e × (e.lead ≡ n)

-- the name at a place, if there is a place
abbrev pub name_told : List Name → Option NameId → Option Name
name_told ns d = option_map (λ (a : NameId). name_at ns a.place) d

-- the places are those of the names of the agents that lead an event that a line from this one on fired or undid
pub record AreChangedLeads (ns : List Name) (lines : List Line) (from : ℕ) (leads : List NameId) : Type 0 where
  pub inside : All (λ d. d.place < length ns) leads
  pub each : (n : Name) → IsIn n (map (λ d. name_at ns d.place) leads) ↔ ((e : Event) × IsChanged lines from e × (e.lead ≡ n))
