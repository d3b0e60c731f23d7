-- Direct causes by ids.
use Rattle.std.specs.Prelude.{◌≡◌, List}
use Rattle.ic_name.specs.declared.ids.EventId.{EventId}
use Rattle.ic_path.specs.Orders.{IsIn}
use Rattle.ic_path.specs.Rings.{HasEachOnce}
use Rattle.ic_theory.specs.Starts.{Start}
use Rattle.ic_theory.specs.Causes.{IsCause}
use Rattle.ic_roster.specs.Rosters.{Stander}
use Rattle.ic_set.specs.Views.{events_of}

-- the id is that of a direct cause of the event
abbrev pub IsCauseId : Start → List Stander → Stander → EventId → Type 0
IsCauseId s ss x d = (y : Stander) × IsIn y ss × (y.id ≡ d) × IsCause s (events_of ss) x.event y.event

-- the ids that are noted with each event are those of its direct causes, each once
abbrev pub HaveCauses : Start → List Stander → Type 0
HaveCauses s ss = (x : Stander) → IsIn x ss → HasEachOnce (IsCauseId s ss x) x.causes
