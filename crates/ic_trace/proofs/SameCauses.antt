-- An event has the same direct causes in each sound set that it stands in.
use Rattle.std.proofs.Common.{List, ◌≢◌, ◌↔◌}
use Rattle.ic_name.specs.Events.{Event}
use Rattle.ic_path.specs.Orders.{IsIn}
use Rattle.ic_theory.specs.Starts.{Start, IsProper}
use Rattle.ic_theory.specs.Causes.{IsCause}
use Rattle.ic_theory.specs.Letters.{AreConcurrent}
use Rattle.ic_theory.specs.Sound.{IsSound}
use Rattle.ic_theory.proofs.Closed.{cause_stays}
use Rattle.ic_theory.proofs.Ranks.{sound_union, cause_included, cause_in}

module _ (s : Start) (ok : IsProper s) where
  -- a cause in one sound set is one in another
  pub same_cause : {es all : List Event} {e c : Event} → IsSound s es → IsSound s all → IsIn e all → IsCause s es e c → IsCause s all e c
  same_cause {es} {all} h k j q = let u = sound_union s ok es all h k in cause_stays s ok u.1.apart u.3 k j (cause_included s u.2 q)

  -- events are concurrent where neither was among the other's causes
  pub concurrent_by : {es fs : List Event} {e f : Event} → IsSound s es → IsSound s fs → IsIn e es → IsIn f fs → e ≢ f → AreConcurrent s e f ↔ (¬ (IsCause s es e f) × ¬ (IsCause s fs f e))
  concurrent_by {es} {fs} h k i j n = (
    λ c. (λ q. (c.no_cause es h i (cause_in s q)).0 q, λ q. (c.no_cause fs k (cause_in s q) j).1 q),
    λ m. record { different = n; no_cause = λ all a x y. (λ q. m.0 (same_cause a h i q), λ q. m.1 (same_cause a k j q)) },
  )
