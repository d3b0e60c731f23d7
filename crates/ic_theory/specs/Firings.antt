-- Orders in which the events of a set can be fired.
use Rattle.std.specs.Prelude.{List, [], ◌∷◌}
use Rattle.ic_name.specs.Events.{Event}
use Rattle.ic_path.specs.Orders.{IsIn}
use Rattle.ic_theory.specs.Starts.{Start}
use Rattle.ic_theory.specs.Active.{IsActive}
use Rattle.ic_theory.specs.Causes.{IsCause}

-- a firing of a set, the latest event first: each event was active before it was fired
pub data IsFired (s : Start) : List Event → Type 0 where
  nothing : IsFired s []
  fired : {e : Event} {es : List Event} → IsFired s es → IsActive s es e → IsFired s (e ∷ es)

-- a causal order, the latest event first: behind each event stand its direct causes in the set
abbrev pub AreAfterCauses : Start → List Event → List Event → Type 0
AreAfterCauses s all [] = Unit {0}
AreAfterCauses s all (e ∷ es) = ((c : Event) → IsCause s all e c → IsIn c es) × AreAfterCauses s all es

-- the events of a list, the earliest first, fired after those of `done`, the latest first
abbrev pub then_fired : List Event → List Event → List Event
then_fired done [] = done
then_fired done (e ∷ es) = then_fired (e ∷ done) es
