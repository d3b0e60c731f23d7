-- Exchanges of neighbours in a firing, and the canonical order.
use Rattle.std.specs.Prelude.{◌≡◌, ℕ, List, [], ◌∷◌, ◌++◌}
use Rattle.std.specs.declared.cmp.Ordering.TheVariants.{Greater}
use Rattle.ic_name.specs.Events.{Event}
use Rattle.ic_path.specs.Orders.{IsIn, Alike}
use Rattle.ic_theory.specs.Starts.{Start}
use Rattle.ic_theory.specs.Causes.{IsCause, canonical_cmp}
use Rattle.ic_theory.specs.Firings.{IsFired}

-- from one list to another, the latest event first, by exchanges of neighbours of which neither is a direct cause of the
-- other
pub data Exchanges (s : Start) : List Event → List Event → Type 0 where
  done : {es : List Event} → Exchanges s es es
  exchanged : {e f : Event} {es gs : List Event} (later : List Event) → (IsCause s (f ∷ e ∷ es) f e → ⊥) → (IsCause s (f ∷ e ∷ es) e f → ⊥) → Exchanges s (later ++ e ∷ f ∷ es) gs → Exchanges s (later ++ f ∷ e ∷ es) gs

-- a list in canonical order, the latest event first
abbrev pub IsCanonical : (Event → ℕ) → List Event → Type 0
IsCanonical rank [] = Unit {0}
IsCanonical rank (e ∷ es) = ((f : Event) → IsIn f es → canonical_cmp rank e f ≡ Greater) × IsCanonical rank es

-- exchanges lead from the list to a firing of the same events in canonical order
abbrev pub ReachesCanonical : Start → (Event → ℕ) → List Event → Type 0
ReachesCanonical s rank es = (order : List Event) × Exchanges s es order × IsFired s order × IsCanonical rank order × Alike es order
