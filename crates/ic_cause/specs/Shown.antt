-- Links by ids that show the links of a set of events.
use Rattle.std.specs.Prelude.{List, map}
use Rattle.ic_name.specs.Events.{Event}
use Rattle.ic_name.specs.declared.ids.Link.{Link}
use Rattle.ic_path.specs.Orders.{Alike, IsIn}
use Rattle.ic_theory.specs.Starts.{Start}
use Rattle.ic_theory.specs.Sets.{links}
use Rattle.ic_cause.specs.Naming.{Naming, TellsApart, IsHeld, link_of}

-- by the names that the ids stand for, they are the links of the start and of the events
pub record Shows (n : Naming) (s : Start) (es : List Event) (ls : List Link) : Type 0 where
  pub apart : TellsApart n
  pub held : (l : Link) → IsIn l ls → IsHeld n l
  pub alike : Alike (map (link_of n) ls) (links s es)
