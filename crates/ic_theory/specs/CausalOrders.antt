-- Causal orders of sound sets, the earliest event first, and exchanges of neighbours in them.
use Rattle.std.specs.Prelude.{ℕ, List, [], ◌∷◌, ◌++◌}
use Rattle.std.specs.List.Sorted.{IsStrictlySortedBy}
use Rattle.ic_name.specs.Events.{Event}
use Rattle.ic_path.specs.Orders.{Alike}
use Rattle.ic_theory.specs.Starts.{Start}
use Rattle.ic_theory.specs.Causes.{IsCause, canonical_cmp}
use Rattle.ic_theory.specs.Firings.{AreAfterCauses, then_fired}
use Rattle.ic_theory.specs.Nets.{IsSameNet, net_of}
use Rattle.ic_theory.specs.Sound.{IsSound}
use Rattle.ic_theory.specs.Steps.{steps}

-- the events are a sound set, each listed once and after its direct causes
abbrev pub IsCausalOrder : Start → List Event → Type 0
IsCausalOrder s list = IsSound s (then_fired [] list) × AreAfterCauses s (then_fired [] list) (then_fired [] list)

-- neither event is a direct cause of the other in the set
pub record AreIndependent (s : Start) (set : List Event) (e f : Event) : Type 0 where
  pub first : ¬ (IsCause s set e f)
  pub second : ¬ (IsCause s set f e)

-- from one order of the set to another, the earliest event first, by exchanges of neighbours of which neither is a direct
-- cause of the other
pub data Reorders (s : Start) (set : List Event) : List Event → List Event → Type 0 where
  done : {list : List Event} → Reorders s set list list
  exchanged : {e f : Event} {order : List Event} (front back : List Event) → AreIndependent s set e f
      → Reorders s set (front ++ f ∷ e ∷ back) order → Reorders s set (front ++ e ∷ f ∷ back) order

-- the steps along both lists end in the same net
abbrev pub EndTogether : Start → List Event → List Event → Type 0
EndTogether s list order = IsSameNet (steps (net_of s []) list) (steps (net_of s []) order)

-- exchanges lead from the list to the canonical order of its events, which is causal and ends in the same net
abbrev pub ReordersToCanonical : Start → (Event → ℕ) → List Event → Type 0
ReordersToCanonical s rank list =
    (order : List Event) × Reorders s (then_fired [] list) list order × IsCausalOrder s order × IsStrictlySortedBy (canonical_cmp rank) order × Alike list order × EndTogether s list order
