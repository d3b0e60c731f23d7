-- The events that made the links of a path.
use Rattle.std.specs.Prelude.{◌≡◌, true, List}
use Rattle.ic_path.specs.Orders.{IsIn}
use Rattle.ic_path.specs.Rings.{HasEachOnce}
use Rattle.ic_name.specs.Events.{Event}
use Rattle.ic_name.specs.declared.ids.EventId.{EventId}
use Rattle.ic_name.specs.declared.ids.LinkId.{LinkId}
use Rattle.ic_name.specs.declared.ids.MakerId.TheVariants as maker
use Rattle.ic_cause.specs.Naming.{Naming}

-- the event made the link of one of the ids
abbrev pub IsMaker : List LinkId → EventId → Type 0
IsMaker ids e = (id : LinkId) × IsIn id ids × (id.maker ≡ maker.Event e)

-- the events that made links of these ids, each once
abbrev pub AreMakers : List LinkId → List EventId → Type 0
AreMakers ids es = HasEachOnce (IsMaker ids) es

-- the event stands under an id that is held, and made the link of one of the ids
abbrev pub IsMakerIn : Naming → List LinkId → Event → Type 0
IsMakerIn n ids c = (d : EventId) × (id : LinkId) × IsIn id ids × (id.maker ≡ maker.Event d) × (n.has_event d ≡ true) × (n.event d ≡ c)
