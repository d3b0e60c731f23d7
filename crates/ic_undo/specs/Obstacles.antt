-- What keeps an event from being active.
use Rattle.std.specs.Prelude.{◌≡◌, ◌⊎◌, List}
use Rattle.ic_name.specs.Events.{Event, Pair}
use Rattle.ic_name.specs.declared.ports.Port.{Port}
use Rattle.ic_name.specs.declared.ports.Port.TheVariants.{Of}
use Rattle.ic_theory.specs.Starts.{Start}
use Rattle.ic_theory.specs.Wires.{IsWire}
use Rattle.ic_undo.specs.declared.obstacle.Obstacle.{Obstacle}
use Rattle.ic_undo.specs.declared.obstacle.Obstacle.TheVariants as obstacle

-- one of the event's agents has no wire at its principal port, so it isn't there; or the wires at the principal ports of both
-- lead to these ports; nothing is said where memory ran out
abbrev pub IsObstacle : Start → List Event → Pair → Obstacle → Type 0
IsObstacle s es p (obstacle.Absent a) = ((a ≡ p.lead) ⊎ (a ≡ p.other)) × ((q : Port) → ¬ (IsWire s es (Of a 0) q))
IsObstacle s es p (obstacle.Joined q r) = IsWire s es (Of p.lead 0) q × IsWire s es (Of p.other 0) r
IsObstacle s es p obstacle.Unknown = Unit {0}
