-- Active pairs.
use Rattle.std.specs.Prelude.{◌≡◌, List}
use Rattle.std.specs.declared.cmp.Ordering.TheVariants.{Less}
use Rattle.ic_name.specs.Names.{name_cmp}
use Rattle.ic_name.specs.Events.{Event}
use Rattle.ic_name.specs.declared.ports.Port.TheVariants.{Of}
use Rattle.ic_path.specs.Orders.{IsIn}
use Rattle.ic_theory.specs.Starts.{Start}
use Rattle.ic_theory.specs.Sets.{agents}
use Rattle.ic_theory.specs.Wires.{IsWire}

-- the two agents of an event are there, of these kinds, the lesser one leading
pub record ArePresent (s : Start) (es : List Event) (e : Event) : Type 0 where
  pub lead : IsIn (e.lead, e.lead_kind) (agents s es)
  pub other : IsIn (e.other, e.other_kind) (agents s es)
  pub ordered : name_cmp e.lead e.other ≡ Less

-- an active pair: two agents whose principal ports are a wire
pub record IsActive (s : Start) (es : List Event) (e : Event) : Type 0 where
  pub present : ArePresent s es e
  pub wire : IsWire s es (Of e.lead 0) (Of e.other 0)
