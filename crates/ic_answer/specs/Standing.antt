-- What is told of a set of events: its active pairs, and the rank and the causes of an event.
use Rattle.std.specs.Prelude.{◌≡◌, ℕ, List, map}
use Rattle.std.specs.List.Sorted.{IsStrictlySortedBy}
use Rattle.ic_name.specs.Names.{name_cmp}
use Rattle.ic_name.specs.Events.{Event}
use Rattle.ic_path.specs.Rings.{HasEachOnce}
use Rattle.ic_theory.specs.Starts.{Start}
use Rattle.ic_theory.specs.Active.{IsActive}
use Rattle.ic_theory.specs.Causes.{IsCause, IsRank}
use Rattle.ic_cause.specs.Journals.{AreCanonical}

-- all active pairs, each once, by lead
pub record AreActive (s : Start) (es fs : List Event) : Type 0 where
  pub each : HasEachOnce (IsActive s es) fs
  pub by_lead : IsStrictlySortedBy name_cmp (map (λ e. e.lead) fs)

-- the number is the rank of the event
abbrev pub HasRank : Start → List Event → Event → ℕ → Type 0
HasRank s es e r = (rank : Event → ℕ) → IsRank s es rank → r ≡ rank e

-- all direct causes of the event, each once, in canonical order
pub record AreCauses (s : Start) (es : List Event) (e : Event) (cs : List Event) : Type 0 where
  pub each : HasEachOnce (IsCause s es e) cs
  pub canonical : AreCanonical s es cs
