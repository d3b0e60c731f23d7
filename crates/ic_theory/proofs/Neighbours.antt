-- Neighbours at any place of a firing change places, and exchanges of neighbours lead from firing to firing.
use Rattle.std.proofs.Common.{List, [], ◌∷◌, ◌++◌}
use Rattle.ic_name.specs.Events.{Event}
use Rattle.ic_path.specs.Orders.{here, there, Alike, more}
use Rattle.ic_path.proofs.Alikes.{alike_self, alike_then, alike_more}
use Rattle.ic_theory.specs.Starts.{Start, IsProper}
use Rattle.ic_theory.specs.Causes.{IsCause}
use Rattle.ic_theory.specs.Firings.{IsFired, fired}
use Rattle.ic_theory.specs.Exchanges.{Exchanges, done, exchanged}
use Rattle.ic_theory.proofs.Future.{earlier, last_active}
use Rattle.ic_theory.proofs.Normal.{active-alike}
use Rattle.ic_theory.proofs.Swaps.{fired_swap}

-- two neighbours change places, and the events are the same
pub swapped_at : (later : List Event) (e f : Event) (es : List Event) → Alike (later ++ f ∷ e ∷ es) (later ++ e ∷ f ∷ es)
swapped_at later e f es = alike_more later (more (there here) (more here (alike_self es)))

module _ (s : Start) (ok : IsProper s) where
  -- where the earlier of the two doesn't cause the later, each event after them is active as before
  pub fired_at : (later : List Event) (e f : Event) (es : List Event) → IsFired s (later ++ f ∷ e ∷ es) → (IsCause s (f ∷ e ∷ es) f e → ⊥) → IsFired s (later ++ e ∷ f ∷ es)
  fired_at [] e f es h n = fired_swap s ok e f es h n
  fired_at (x ∷ later) e f es h n = fired (fired_at later e f es (earlier h) n) (active-alike s (swapped_at later e f es) (last_active h))

  -- exchanges lead from a firing to a firing of the same events
  pub fired_along : {es gs : List Event} → Exchanges s es gs → IsFired s es → IsFired s gs × Alike es gs
  fired_along {es} done h = (h, alike_self es)
  fired_along (exchanged {e = e} {f = f} {es = es} later n m r) h =
      let ih = fired_along r (fired_at later e f es h n) in
      (ih.0, alike_then (swapped_at later e f es) ih.1)
