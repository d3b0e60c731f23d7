-- Standing sets without limits: what they show, and what their calls do.
use Rattle.std.specs.Prelude.{◌≡◌, ◌≢◌, Bool, true, false, List, ◌∷◌, map, Option, Some, None}
use Rattle.ic_name.specs.Events.{Event, Pair, pair}
use Rattle.ic_path.specs.Orders.{Alike, IsIn}
use Rattle.ic_path.specs.Rings.{HasEachOnce}
use Rattle.ic_theory.specs.Starts.{Start}
use Rattle.ic_theory.specs.Active.{IsActive}
use Rattle.ic_theory.specs.Causes.{IsCause, IsDependent}

-- the start, and the events that stand, in an order that no clause names
pub record PastView : Type 0 where
  pub start : Start
  pub events : List Event

-- the same but for the order of the events
pub record IsSamePast (old new : PastView) : Type 0 where
  pub start : new.start ≡ old.start
  pub events : Alike old.events new.events

-- the second has the event, too
pub record IsWith (old : PastView) (e : Event) (new : PastView) : Type 0 where
  pub start : new.start ≡ old.start
  pub events : Alike (e ∷ old.events) new.events

-- what firing an event does: it stands then, if it was active
abbrev pub Fires : PastView → Event → Bool → PastView → Type 0
Fires old e true new = IsActive old.start old.events e × IsWith old e new
Fires old e false new = ¬ (IsActive old.start old.events e) × IsSamePast old new

-- what undoing the event of a name does: it stands no more, if it stood and nothing depended on it
abbrev pub Undoes : PastView → Pair → Bool → PastView → Type 0
Undoes old p true new = (e : Event) × (pair e ≡ p) × ((f : Event) → ¬ (IsDependent old.start old.events e f)) × IsWith new e old
Undoes old p false new = ((e : Event) → IsIn e old.events → pair e ≡ p → (f : Event) × IsDependent old.start old.events e f) × IsSamePast old new

-- the names of the direct causes of the standing event of a name, each once
abbrev pub AreCausesNamed : PastView → Pair → Option (List Pair) → Type 0
AreCausesNamed v p (Some names) =
    (e : Event) × IsIn e v.events × (pair e ≡ p) × (cs : List Event) × HasEachOnce (IsCause v.start v.events e) cs × (map pair cs ≡ names)
AreCausesNamed v p None = (e : Event) → IsIn e v.events → pair e ≢ p
