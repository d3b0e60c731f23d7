-- Events whose children no event can name, and how they are kept.
use Rattle.std.specs.Prelude.{◌≤◌, List, ◌++◌, map}
use Rattle.ic_name.specs.Names.{depth}
use Rattle.ic_name.specs.Events.{Event}
use Rattle.ic_name.specs.declared.limits.TheConstants.{MAX_DEPTH}
use Rattle.ic_path.specs.Orders.{IsIn}
use Rattle.ic_theory.specs.Machine.{IsDeep}
use Rattle.ic_theory.specs.Sound.{IsSound}
use Rattle.ic_set.specs.Views.{SetView, standing}
use Rattle.ic_set.specs.Admission.{AreCausesOf}
use Rattle.ic_trace.specs.declared.past.deep.DeepEvent.{DeepEvent}

-- the names of the event's agents have no more digits than a name may have
abbrev pub IsShallow : Event → Type 0
IsShallow e = (depth e.lead ≤ MAX_DEPTH) × (depth e.other ≤ MAX_DEPTH)

-- and so for each event
abbrev pub AreShallow : List Event → Type 0
AreShallow es = (e : Event) → IsIn e es → IsShallow e

-- the events that are kept with their causes
abbrev pub deep_events : List DeepEvent → List Event
deep_events ds = map (λ d. d.event) ds

-- what is kept of the events beside the standing set: all are sound together, and the ids of direct causes are noted
pub record KeepsDeep (v : SetView) (ds : List DeepEvent) : Type 0 where
  pub sound : IsSound v.start (deep_events ds ++ standing v)
  pub shallow : AreShallow (deep_events ds ++ standing v)
  pub deep : (d : DeepEvent) → IsIn d ds → IsDeep d.event
  pub causes : (d : DeepEvent) → IsIn d ds → AreCausesOf v d.event d.causes.items
