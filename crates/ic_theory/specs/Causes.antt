-- Causes and ranks.
use Rattle.std.specs.Prelude.{◌≡◌, ℕ, ◌+◌, ◌<◌, List, ◌∷◌, Some, ◌⊎◌}
use Rattle.std.specs.declared.cmp.Ordering.{Ordering}
use Rattle.std.specs.Ordering.{on, then_cmp, nat_cmp}
use Rattle.ic_name.specs.Names.{name_cmp}
use Rattle.ic_name.specs.Events.{Event}
use Rattle.ic_name.specs.declared.ports.Port.TheVariants.{Of}
use Rattle.ic_path.specs.Orders.{IsIn}
use Rattle.ic_theory.specs.Born.{Link}
use Rattle.ic_theory.specs.Starts.{Start}
use Rattle.ic_theory.specs.Sets.{links}
use Rattle.ic_theory.specs.Wires.{Path}

-- a direct cause of an event: the maker of a link on the trail between the principal ports of its two agents
pub record IsCause (s : Start) (es : List Event) (e c : Event) : Type 0 where
  pub path : Path (links s es) (Of e.lead 0) (Of e.other 0)
  pub link : Link
  pub on_path : IsIn link (path.first ∷ path.others)
  pub made : link.maker ≡ Some c

-- a direct dependent of an event: one of the set that has it among its direct causes
abbrev pub IsDependent : Start → List Event → Event → Event → Type 0
IsDependent s es e f = IsIn f es × IsCause s es f e

-- ranks: one more than the greatest rank of a direct cause, and 0 without causes
pub record IsRank (s : Start) (es : List Event) (rank : Event → ℕ) : Type 0 where
  pub above : (e c : Event) → IsIn e es → IsCause s es e c → rank c < rank e
  pub least : (e : Event) → IsIn e es → (rank e ≡ 0) ⊎ ((c : Event) × IsCause s es e c × (rank e ≡ rank c + 1))

-- canonical order: by rank, then lead, then other
abbrev pub canonical_cmp : (Event → ℕ) → Event → Event → Ordering
canonical_cmp rank = then_cmp (on rank nat_cmp) (then_cmp (on (λ e. e.lead) name_cmp) (on (λ e. e.other) name_cmp))
