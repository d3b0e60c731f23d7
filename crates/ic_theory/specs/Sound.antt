-- Sound sets: those that firings can leave.
use Rattle.std.specs.Prelude.{ℕ, ◌≤◌, List}
use Rattle.ic_name.specs.Names.{Name}
use Rattle.ic_name.specs.Events.{Event}
use Rattle.ic_name.specs.declared.ports.Port.TheVariants.{Of}
use Rattle.ic_path.specs.Orders.{IsIn}
use Rattle.ic_theory.specs.Starts.{Start}
use Rattle.ic_theory.specs.Sets.{links, consumed_times}
use Rattle.ic_theory.specs.Wires.{Path}
use Rattle.ic_theory.specs.Active.{ArePresent}
use Rattle.ic_theory.specs.Causes.{IsRank}

-- each agent is in at most one event, the agents of each event are there, a trail joins their principal ports, and
-- the events have ranks
pub record IsSound (s : Start) (es : List Event) : Type 0 where
  pub apart : (n : Name) → consumed_times n es ≤ 1
  pub present : (e : Event) → IsIn e es → ArePresent s es e
  pub joined : (e : Event) → IsIn e es → Path (links s es) (Of e.lead 0) (Of e.other 0)
  pub rank : Event → ℕ
  pub ranked : IsRank s es rank
