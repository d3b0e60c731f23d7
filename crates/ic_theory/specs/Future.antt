-- Sets that have the events of others.
use Rattle.std.specs.Prelude.{List, ◌++◌, ◌⊎◌}
use Rattle.ic_name.specs.Events.{Event}
use Rattle.ic_path.specs.Orders.{Alike, IsIn}
use Rattle.ic_theory.specs.Starts.{Start}
use Rattle.ic_theory.specs.Firings.{IsFired}

-- `all` has the events of `es`, and others
pub record Includes (all es : List Event) : Type 0 where
  pub others : List Event
  pub alike : Alike (others ++ es) all

-- a firing that has the events of both sets, and no others
pub record Union (s : Start) (es fs : List Event) : Type 0 where
  pub all : List Event
  pub firing : IsFired s all
  pub left : Includes all es
  pub right : Includes all fs
  pub only : (e : Event) → IsIn e all → IsIn e es ⊎ IsIn e fs

-- `all` has the events of both sets, and no others
abbrev pub Unites : List Event → List Event → List Event → Type 0
Unites all es fs = Includes all es × Includes all fs × ((e : Event) → IsIn e all → IsIn e es ⊎ IsIn e fs)
