-- The wire at a port of the net, and the events that made it.
use Rattle.std.specs.Prelude.{◌≡◌, List, ◌∷◌, Some}
use Rattle.ic_name.specs.Events.{Event}
use Rattle.ic_name.specs.declared.ids.EventId.{EventId}
use Rattle.ic_name.specs.declared.ids.Spot.{Spot}
use Rattle.ic_name.specs.declared.ports.Port.{Port}
use Rattle.ic_path.specs.Orders.{IsIn}
use Rattle.ic_theory.specs.Born.{Link}
use Rattle.ic_theory.specs.Starts.{Start}
use Rattle.ic_theory.specs.Wires.{IsLoose, IsWire}
use Rattle.ic_set.specs.Orders.{AreInOrder}
use Rattle.ic_set.specs.Reading.{IsPortAt}
use Rattle.ic_set.specs.Views.{SetView, standing}

-- the spot is that of a port of the net
abbrev pub IsLooseSpot : SetView → Spot → Port → Type 0
IsLooseSpot v q p = IsPortAt v q p × IsLoose v.start (standing v) p

-- a maker of the wire at a port: of a link on the trail from there to the wire's other end
pub record IsWireMaker (s : Start) (es : List Event) (p : Port) (c : Event) : Type 0 where
  pub far : Port
  pub wire : IsWire s es p far
  pub link : Link
  pub on_path : IsIn link (wire.path.first ∷ wire.path.others)
  pub made : link.maker ≡ Some c

-- the wire of the net at a port: the port at its other end, and the standing events that made it, each once, in canonical order
pub record IsWireAt (v : SetView) (p far : Port) (makers : List EventId) : Type 0 where
  pub joins : IsWire v.start (standing v) p far
  pub made_by : AreInOrder v (λ x. IsWireMaker v.start (standing v) p x.event) makers
